-- What the edits of a call that changes one fork make of a volume's blocks: its record in the catalog, its extents, the volume bitmap, and
-- the bytes of its blocks.
use Rattle.std.specs.Prelude.{◌≡◌, ℕ, ◌*◌, ◌<◌, ◌≤◌, true, false, List, ◌++◌, length}
use Rattle.hfs_fields.specs.declared.extent.Extent.{Extent}
use Rattle.hfs_fields.specs.declared.file_record.FileRecord.{FileRecord}
use Rattle.hfs_fields.specs.Counts.{SameBesideCounts}
use Rattle.hfs_fields.specs.Keys.{cat_cmp}
use Rattle.hfs_fields.specs.Records.{is_file, file_record_of}
use Rattle.hfs_fields.specs.RecordForms.{IsFileRecordValue, file_record_bytes}
use Rattle.hfs_fields.specs.Each.{Each}
use Rattle.hfs_fields.specs.Members.{In}
use Rattle.hfs_btree.specs.Sound.{KeepsFrame}
use Rattle.hfs_btree_checks.specs.Order.{index_keys}
use Rattle.hfs_btree_edits.specs.Edits.{with_replaced}
use Rattle.hfs_space.specs.Bitmap.{bitmap_len, is_used, clear_count}
use Rattle.hfs_space.specs.Extents.{extent_blocks, fork_byte, fork_extents}
use Rattle.hfs_space.specs.ForkLaws.{block_numbers}
use Rattle.hfs_space.specs.Owners.{owners}
use Rattle.hfs_record_edits.specs.Whole.{IsWhole, EditsFork}
use Rattle.hfs_catalog.specs.Records.{Record}
use Rattle.hfs_catalog.specs.Tree.{cat_keys, IsCatalogTree}
use Rattle.hfs_catalog.specs.Sound.{IsIndexKeyName}
use Rattle.hfs_model.specs.declared.call.Fork.{Fork}
use Rattle.hfs_check.specs.Parts.{Blocks, mdb_in, extents_nodes, overflow_in, catalog_nodes, catalog_in}
use Rattle.hfs_check.specs.VolumeOf.{bytes_in}
use Rattle.hfs_check.specs.Agree.{IsBesideAll}
use Rattle.hfs_model.specs.Forks.{blocks}
use Rattle.hfs_call_patches.specs.Files.{kind_of, fork_of, file_with}

-- ---- a file's fork in a volume

abbrev pub byte_of : Fork → ℕ
byte_of fork = fork_byte (kind_of fork)

-- all its extents
abbrev pub extents_of : Blocks → Fork → FileRecord → List Extent
extents_of volume fork file = fork_extents (overflow_in volume) file.id (byte_of fork) (fork_of fork file).extents

-- its allocation blocks, in order
abbrev pub blocks_of : Blocks → Fork → FileRecord → List ℕ
blocks_of volume fork file = extent_blocks (extents_of volume fork file)

-- its bytes
abbrev pub bytes_of : Blocks → Fork → FileRecord → List ℕ
bytes_of volume fork file = bytes_in volume file.id (kind_of fork) (fork_of fork file)

-- ---- what is edited

-- the file has this record now, in a sound catalog tree over the same nodes
pub record SetsRecord (r : Record) (file : FileRecord) (old new : Blocks) : Type 0 where
  pub value : IsFileRecordValue file
  pub content : catalog_in new ≡ with_replaced cat_cmp r.0 (file_record_bytes file) (catalog_in old)
  pub tree : IsCatalogTree (catalog_nodes new)
  pub frame : KeepsFrame cat_keys (catalog_nodes old) (catalog_nodes new)
  pub index : Each IsIndexKeyName (index_keys cat_keys (catalog_nodes new))

-- the first of the fork's blocks stay; after them these are added, which were free, each once, and of the others these are freed
pub record MovesBlocks (fork : Fork) (was now : FileRecord) (come go : List ℕ) (old new : Blocks) : Type 0 where
  pub stay : List ℕ
  pub before : blocks_of old fork was ≡ stay ++ go
  pub after : blocks_of new fork now ≡ stay ++ come
  pub once : (b : ℕ) → owners come b ≤ 1
  pub free : (b : ℕ) → 0 < owners come b → is_used old (mdb_in old).bitmap_start b ≡ false
  pub within : (b : ℕ) → 0 < owners come b → b < (mdb_in old).allocation_blocks

-- the extents tree is sound, over the same nodes; every other fork has its records there, and this one goes on with each of its own
pub record SetsExtents (fork : Fork) (file : FileRecord) (old new : Blocks) : Type 0 where
  pub edits : EditsFork file.id (byte_of fork) (extents_nodes old) (extents_nodes new)
  pub whole : IsWhole file.id (byte_of fork) (fork_of fork file).extents (extents_nodes new)

-- the bits of the blocks that are added are set, those of the blocks that are freed are clear, and no other bit in the bitmap's blocks has changed
pub record SetsBits (come go : List ℕ) (old new : Blocks) : Type 0 where
  pub set : (b : ℕ) → 0 < owners come b → is_used new (mdb_in old).bitmap_start b ≡ true
  pub clear : (b : ℕ) → 0 < owners go b → is_used new (mdb_in old).bitmap_start b ≡ false
  pub others : (b : ℕ) → b < 4096 * bitmap_len (mdb_in old).allocation_blocks → owners come b ≡ 0 → owners go b ≡ 0
      → is_used new (mdb_in old).bitmap_start b ≡ is_used old (mdb_in old).bitmap_start b

-- the volume was last changed now, and counts its clear bits; no other block has changed but the bitmap's, those of the nodes of both
-- trees, and the written ones
pub record SetsVolume (now : ℕ) (written : List ℕ) (old new : Blocks) : Type 0 where
  pub free : ℕ
  pub mdb : mdb_in new ≡ record (mdb_in old) { modified = now; free_blocks = free }
  pub counted : free ≡ clear_count new (mdb_in old).bitmap_start (mdb_in old).allocation_blocks
  pub beside : SameBesideCounts (old 2) (new 2)
  pub others : (n : ℕ) → IsBesideAll written old n → new n ≡ old n

-- ---- the whole

-- The fork of the file with this record has these bytes now, in exactly as many blocks as they take. Of its blocks some were written, and
-- besides them nothing has changed in the volume but what must.
pub record ChangesFork (fork : Fork) (r : Record) (bytes : List ℕ) (now : ℕ) (written : List ℕ) (old new : Blocks) : Type 0 where
  pub was : is_file r.1 ≡ true
  pub first : List Extent
  pub file : FileRecord
  pub file_is : file ≡ file_with (mdb_in old).allocation_block_size fork (length bytes) first now (file_record_of r.1)
  pub volume : SetsVolume now written old new
  pub set : SetsRecord r file old new
  pub extents : SetsExtents fork file old new
  pub come : List ℕ
  pub go : List ℕ
  pub moves : MovesBlocks fork (file_record_of r.1) file come go old new
  pub bits : SetsBits come go old new
  pub exact : length (blocks_of new fork file) ≡ blocks (mdb_in old).allocation_block_size (length bytes)
  pub has : bytes_of new fork file ≡ bytes
  pub own : Each (λ n. In n (block_numbers (mdb_in old) (extents_of new fork file))) written
