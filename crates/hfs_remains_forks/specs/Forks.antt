-- The forks of files that remain: their blocks, and their bytes.
use Rattle.std.specs.Prelude.{ℕ, ◌+◌, ◌-◌, ◌*◌, if◌then◌else◌, List, [], ◌∷◌, map, take, length, Option, Some, None, min}
use Rattle.std.specs.Int.{div_ceil}
use Rattle.std.specs.Option.{is_some}
use Rattle.hfs_fields.specs.declared.mdb.Mdb.{Mdb}
use Rattle.hfs_fields.specs.declared.file_record.ForkRecord.{ForkRecord}
use Rattle.hfs_fields.specs.Records.{is_file, file_record_of}
use Rattle.hfs_space.specs.Extents.{Overflow, extent_blocks}
use Rattle.hfs_remains.specs.Allocation.{is_there}
use Rattle.hfs_remains.specs.TreeFiles.{FileBlocks}
use Rattle.hfs_remains.specs.OverflowRecords.{fork_extents}
use Rattle.hfs_remains_forks.specs.declared.forks.Fork.{Fork}

-- ---- forks

-- a fork of the file with this number, as its record has it
abbrev pub fork_of : ℕ → ℕ → ForkRecord → Fork
fork_of file kind f = record { file = file; kind = kind; len = f.length; first = f.extents }

-- the two forks of a file's record, data before resources
abbrev pub both_forks : List ℕ → Option (Fork × Fork)
both_forks body =
    if is_file body then Some (fork_of (file_record_of body).id 0 (file_record_of body).«data», fork_of (file_record_of body).id 255 (file_record_of body).resource) else None

-- ---- blocks

-- how many allocation blocks hold so many bytes
abbrev pub blocks_for : Mdb → ℕ → ℕ
blocks_for mdb len = div_ceil len mdb.allocation_block_size

-- the blocks of a fork: the first of its extents, as many as its length needs
unfoldable pub fork_blocks : Overflow → Mdb → Fork → List ℕ
fork_blocks records mdb fork = take (blocks_for mdb fork.len) (extent_blocks (fork_extents records fork.file fork.kind (blocks_for mdb fork.len) fork.first))

-- a block, where it is there
abbrev pub there : ℕ → Mdb → ℕ → Option ℕ
there total mdb b = if is_there total mdb b then Some b else None

-- the blocks of a fork, none in the place of each that is missing
unfoldable pub fork_places : ℕ → Overflow → Mdb → Fork → FileBlocks
fork_places total records mdb fork = map (there total mdb) (fork_blocks records mdb fork)

-- ---- bytes

-- how many bytes a fork has: its length, or as many as its blocks hold
unfoldable pub fork_length : Overflow → Mdb → Fork → ℕ
fork_length records mdb fork = min fork.len (length (fork_blocks records mdb fork) * mdb.allocation_block_size)

-- of so many bytes in these blocks, those for which a block is missing
abbrev pub missing_in : ℕ → ℕ → FileBlocks → ℕ
missing_in size left [] = 0
missing_in size left (place ∷ rest) = (if is_some place then 0 else min size left) + missing_in size (left - size) rest
