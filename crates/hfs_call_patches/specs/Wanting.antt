-- What SetEof and WriteFork need of a volume, and what is reported where that is lacking.
use Rattle.std.specs.Prelude.{◌≡◌, ℕ, ◌≤◌, List, length, Option, Some}
use Rattle.hfs_fields.specs.declared.extent.Extent.{Extent}
use Rattle.hfs_fields.specs.declared.file_record.FileRecord.{FileRecord}
use Rattle.hfs_btree.specs.Header.{depth_of, free_nodes}
use Rattle.hfs_space.specs.Bitmap.{is_used}
use Rattle.hfs_space.specs.Choice.{AreChosen}
use Rattle.hfs_model.specs.declared.call.Fork.{Fork}
use Rattle.hfs_model.specs.declared.journal.Want.{Want}
use Rattle.hfs_check.specs.Parts.{Blocks, mdb_in, extents_nodes, overflow_in}
use Rattle.hfs_model.specs.Forks.{blocks}
use Rattle.hfs_record_edits.specs.Growing.{records_coming}
use Rattle.hfs_record_edits.specs.Wants.{blocks_wanted, want_of, IsForkWant}
use Rattle.hfs_record_edits.specs.declared.room.Supply.{Supply}
use Rattle.hfs_record_edits.specs.declared.room.Growth.{Growth}
use Rattle.hfs_call_patches.specs.Edits.{extents_of, blocks_of}
use Rattle.hfs_call_patches.specs.Room.{block_after}

-- what the volume of these blocks has for forks that grow
abbrev pub supply_in : Blocks → Supply
supply_in old = record { blocks = (mdb_in old).free_blocks; nodes = free_nodes (extents_nodes old); depth = depth_of (extents_nodes old); records = length (overflow_in old) }

-- what is added to a fork with these extents: so many blocks, and the records that these pieces need
abbrev pub growth_of : ℕ → List Extent → List Extent → Growth
growth_of wanted extents pieces = record { blocks = wanted; records = records_coming extents pieces }

-- What is lacking, if something is, where the fork of the file gets so many bytes. Where as many blocks are free as it needs more, the
-- pieces are those that are chosen of them.
pub record MeetsWant (fork : Fork) (file : FileRecord) (len : ℕ) (old : Blocks) (want : Option Want) : Type 0 where
  pub wanted : ℕ
  pub count : wanted ≡ blocks_wanted (mdb_in old).allocation_block_size (length (blocks_of old fork file)) len
  pub pieces : List Extent
  pub chosen : wanted ≤ (mdb_in old).free_blocks → AreChosen (is_used old (mdb_in old).bitmap_start) (mdb_in old).allocation_blocks (block_after (extents_of old fork file)) wanted pieces
  pub is : want ≡ want_of (supply_in old) (growth_of wanted (extents_of old fork file) pieces)

-- this is wanting, and no more of it than a fork of so many bytes takes
pub record IsWanting (fork : Fork) (file : FileRecord) (len : ℕ) (old : Blocks) (want : Want) : Type 0 where
  pub meets : MeetsWant fork file len old (Some want)
  pub told : IsForkWant (blocks (mdb_in old).allocation_block_size len) want
