-- The bytes of a file's fork, by the nodes of the extents tree.
use Rattle.std.specs.Prelude.{ℕ, ◌+◌, pos, nat_lt, if◌then◌else◌, List, Result}
use Rattle.std.proofs.Common.{Vec, Global}
use Rattle.hfs_blocks.specs.Blocks.{block_at}
use Rattle.hfs_fields.specs.declared.extent.Extent.{Extent}
use Rattle.hfs_fields.specs.declared.file_record.ForkRecord.{ForkRecord}
use Rattle.hfs_fields.specs.declared.mdb.Mdb.{Mdb}
use Rattle.hfs_btree.specs.Tree.{Store}
use Rattle.hfs_model.specs.declared.codes.TheConstants.{END_OF_FILE}
use Rattle.hfs_model.specs.declared.reply.Reply.{Reply}
use Rattle.hfs_model.specs.declared.reply.Value.TheVariants as value
use Rattle.hfs_space.specs.declared.fork_kind.ForkKind.{ForkKind}
use Rattle.hfs_space.specs.Extents.{fork_extents, fork_byte}
use Rattle.hfs_space.specs.ForkLengths.{all_bytes}
use Rattle.hfs_space.specs.Forks.{fork_bytes, read_from}
use Rattle.hfs_space.specs.Results.{Gives, GivesItems}
use Rattle.hfs_space.specs.Runs.{fork_in}
use Rattle.hfs_space.specs.Sound.{IsForkSound}
use Rattle.hfs_space.specs.TreeKeys.{overflow_of}
use Rattle.hfs_check.specs.Parts.{Blocks}
use Rattle.hfs_volume.specs.declared.image.ImageBlocks.{ImageBlocks}

-- the extents of a fork of the file with this ID lie in the volume, and have room for its bytes
abbrev pub IsForkOf : Mdb → Store → ℕ → ForkKind → ForkRecord → Type 0
IsForkOf mdb extents file kind fork = IsForkSound mdb (overflow_of extents) (fork_in file kind fork)

-- its bytes, in all its extents
abbrev pub bytes_of_fork : Blocks → Mdb → Store → ℕ → ForkKind → ForkRecord → List ℕ
bytes_of_fork blocks mdb extents file kind fork = fork_bytes blocks mdb (fork_extents (overflow_of extents) file (fork_byte kind) fork.extents) fork.length

-- the reply of these bytes of a fork of len bytes, which were read from an offset on: -39 where count of them end past its end
abbrev pub part_reply : List ℕ → ℕ → ℕ → ℕ → Reply
part_reply bytes len offset count = record { code = if nat_lt len (offset + count) then END_OF_FILE else pos 0; value = value.Bytes bytes }

-- the answer has the bytes of these extents from an offset on: so many of them, or as many as there are
abbrev pub GivesExtentBytes : {E : Type 0} → Blocks → Mdb → List Extent → ℕ → ℕ → Result (Vec ℕ Global) E → Type 0
GivesExtentBytes blocks mdb extents offset count result = GivesItems (read_from (all_bytes blocks mdb extents) offset count) result

-- the answer is the bytes of a file's fork in an image
abbrev pub GivesFork : {E : Type 0} → ImageBlocks → Mdb → Store → ℕ → ForkKind → ForkRecord → Result (List ℕ) E → Type 0
GivesFork blocks mdb extents file kind fork result = Gives (bytes_of_fork (block_at blocks.image.now.current) mdb extents file kind fork) result
