-- What the edits of a call that deletes a file make of a volume's blocks. Each statement of a law is what a function of src/deletion.rt
-- ensures.
use Rattle.std.specs.Prelude.{◌≡◌, ℕ, ◌-◌, true, List, Option}
use Rattle.hfs_fields.specs.Counts.{SameBesideCounts}
use Rattle.hfs_fields.specs.Records.{is_file, dir_record_of}
use Rattle.hfs_fields.specs.RecordForms.{IsDirRecordValue, dir_record_bytes}
use Rattle.hfs_fields.specs.Each.{Each}
use Rattle.hfs_fields.specs.Members.{In}
use Rattle.hfs_btree.specs.Sound.{KeepsFrame}
use Rattle.hfs_btree_checks.specs.Order.{index_keys}
use Rattle.hfs_space.specs.Bitmap.{clear_count}
use Rattle.hfs_space.specs.Extents.{Overflow, AreExtentsWithin, extent_blocks}
use Rattle.std.specs.List.{flat_map}
use Rattle.hfs_space.specs.Owners.{forks_of, extents_in}
use Rattle.hfs_record_edits.specs.Dropped.{HasDroppedOverflow}
use Rattle.hfs_record_edits.specs.Released.{AreAlone}
use Rattle.hfs_catalog.specs.Records.{Record}
use Rattle.hfs_catalog.specs.Tree.{cat_keys, IsCatalogTree}
use Rattle.hfs_catalog.specs.Sound.{IsIndexKeyName}
use Rattle.hfs_model.specs.declared.call.Call.TheVariants as call
use Rattle.hfs_model.specs.Choices.{to_delete}
use Rattle.hfs_check.specs.Parts.{Blocks, mdb_in, extents_nodes, overflow_in, catalog_nodes, catalog_in}
use Rattle.hfs_check.specs.Sound.{AreBlocksSound}
use Rattle.hfs_check.specs.VolumeOf.{volume_in}
use Rattle.hfs_record_edits.specs.Changes.{with_children}
use Rattle.hfs_record_edits.proofs.ChangesLaws.{HasDropped}
use Rattle.hfs_record_edits.specs.SettingLaws.{IsChoice}
use Rattle.hfs_record_edits.specs.Deletion.{EditsVolume, HasCleared, MakesDeletion, without_one_file}

-- the allocation blocks of a record's forks, with those that go on in the extents tree; a record of no file has none
abbrev pub fork_blocks : Overflow → Record → List ℕ
fork_blocks overflow r = extent_blocks (flat_map (extents_in overflow) (forks_of r))

-- ---- the blocks of a file

-- each of them is in one extent alone, and marked
abbrev pub ForkBlocksAreAlone : Type 0
ForkBlocksAreAlone =
    (total : ℕ) (r : Record) (blocks : Blocks) → AreBlocksSound total blocks → In r (catalog_in blocks) → AreAlone blocks (mdb_in blocks).bitmap_start (fork_blocks (overflow_in blocks) r)

-- its extents are among the volume's allocation blocks
abbrev pub ForkExtentsAreWithin : Type 0
ForkExtentsAreWithin =
    (total : ℕ) (r : Record) (blocks : Blocks) → AreBlocksSound total blocks → In r (catalog_in blocks)
    → AreExtentsWithin (mdb_in blocks).allocation_blocks (flat_map (extents_in (overflow_in blocks)) (forks_of r))

-- the file's record went, and its thread's if it had one; the folder's record has one child fewer and this moment; both trees are
-- sound over the same nodes, the extents tree without the file's records; and the bits of its blocks are clear
pub record HasDeletedFile (id dir : ℕ) (item : Record) (thread : Option Record) (r : Record) (clear now : ℕ) (old new : Blocks) : Type 0 where
  pub file : is_file item.1 ≡ true
  pub folder_value : IsDirRecordValue (with_children ((dir_record_of r.1).valence - 1) now (dir_record_of r.1))
  pub dropped : HasDropped id dir item thread r (r.0, dir_record_bytes (with_children ((dir_record_of r.1).valence - 1) now (dir_record_of r.1))) (catalog_in old) (catalog_in new)
  pub edits : EditsVolume (without_one_file dir clear now (mdb_in old)) old new
  pub beside : SameBesideCounts (old 2) (new 2)
  pub tree : IsCatalogTree (catalog_nodes new)
  pub frame : KeepsFrame cat_keys (catalog_nodes old) (catalog_nodes new)
  pub index : Each IsIndexKeyName (index_keys cat_keys (catalog_nodes new))
  pub overflow : HasDroppedOverflow id (extents_nodes old) (extents_nodes new)
  pub cleared : HasCleared (fork_blocks (overflow_in old) item) old new
  pub free : clear ≡ clear_count new (mdb_in old).bitmap_start (mdb_in old).allocation_blocks

abbrev pub DeleteFileMakes : Type 0
DeleteFileMakes =
    (total dir clear now : ℕ) (name : List ℕ) (item : Record) (thread : Option Record) (r : Record) (old new : Blocks) → AreBlocksSound total old
    → (c : IsChoice old (to_delete (volume_in old) dir name) item) → HasDeletedFile c.id dir item thread r clear now old new
    → MakesDeletion (call.Delete dir name now) c.id (fork_blocks (overflow_in old) item) (without_one_file dir clear now (mdb_in old)) old new
