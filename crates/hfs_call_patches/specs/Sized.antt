-- What the edits of the extents tree and of the volume bitmap make of a fork that gets another number of allocation blocks.
use Rattle.std.specs.Prelude.{◌≡◌, ◌⊎◌, ℕ, ◌+◌, ◌<◌, ◌≤◌, List, length}
use Rattle.hfs_fields.specs.declared.extent.Extent.{Extent}
use Rattle.hfs_fields.specs.declared.file_record.FileRecord.{FileRecord}
use Rattle.hfs_space.specs.Bitmap.{bitmap_len, is_used}
use Rattle.hfs_space.specs.Extents.{extent_blocks}
use Rattle.hfs_record_edits.specs.Released.{HasReleased}
use Rattle.hfs_space.specs.Choice.{AreFreeOnce}
use Rattle.hfs_space.specs.Claimed.{HasClaimed}
use Rattle.hfs_record_edits.specs.Growing.{HasGrown}
use Rattle.hfs_record_edits.specs.Shortening.{HasShortened}
use Rattle.hfs_record_edits.specs.declared.shortening.ShortFork.{ShortFork}
use Rattle.hfs_model.specs.declared.call.Fork.{Fork}
use Rattle.hfs_check.specs.Parts.{Blocks, mdb_in, extents_nodes}
use Rattle.hfs_call_patches.specs.Files.{fork_of}
use Rattle.hfs_call_patches.specs.Edits.{byte_of, blocks_of}

-- the bitmap is as it is in these blocks
abbrev pub HasBitmapOf : Blocks → Blocks → Blocks → Type 0
HasBitmapOf old bits new = (k : ℕ) → (mdb_in old).bitmap_start ≤ k → k < (mdb_in old).bitmap_start + bitmap_len (mdb_in old).allocation_blocks → new k ≡ bits k

-- ---- what is edited: the fork has n blocks then, and `first` are its first three extents

-- pieces that were free were added to the fork, and their bits were set
pub record Gains (fork : Fork) (was : FileRecord) (first : List Extent) (n : ℕ) (old new : Blocks) : Type 0 where
  pub wanted : ℕ
  pub count : length (blocks_of old fork was) + wanted ≡ n
  pub pieces : List Extent
  pub free : AreFreeOnce (is_used old (mdb_in old).bitmap_start) (mdb_in old).allocation_blocks wanted pieces
  pub grown : HasGrown was.id (byte_of fork) (fork_of fork was).extents first pieces (extents_nodes old) (extents_nodes new)
  pub bits : Blocks
  pub claimed : HasClaimed (mdb_in old).bitmap_start (mdb_in old).allocation_blocks (extent_blocks pieces) old bits
  pub bitmap : HasBitmapOf old bits new

-- it lost its last blocks, and their bits were cleared
pub record Loses (fork : Fork) (was : FileRecord) (first : List Extent) (n : ℕ) (old new : Blocks) : Type 0 where
  pub fewer : n ≤ length (blocks_of old fork was)
  pub short : ShortFork
  pub left : short.first ≡ first
  pub shortened : HasShortened was.id (byte_of fork) (fork_of fork was).extents n short (extents_nodes old) (extents_nodes new)
  pub bits : Blocks
  pub released : HasReleased (mdb_in old).bitmap_start (mdb_in old).allocation_blocks (extent_blocks short.surplus.items) old bits
  pub bitmap : HasBitmapOf old bits new

-- it has as many as it had, and neither the extents tree nor the bitmap has changed
pub record Stays (fork : Fork) (was : FileRecord) (first : List Extent) (n : ℕ) (old new : Blocks) : Type 0 where
  pub count : length (blocks_of old fork was) ≡ n
  pub same : first ≡ (fork_of fork was).extents
  pub nodes : extents_nodes new ≡ extents_nodes old
  pub bitmap : HasBitmapOf old old new

abbrev pub GetsBlocks : Fork → FileRecord → List Extent → ℕ → Blocks → Blocks → Type 0
GetsBlocks fork was first n old new = Gains fork was first n old new ⊎ (Loses fork was first n old new ⊎ Stays fork was first n old new)
