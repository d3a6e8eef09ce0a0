-- What holds of Delete, as far as the catalog's records go. Each statement is what a function of src/removals.rt ensures.
use Rattle.std.specs.Prelude.{◌≡◌, ◌≢◌, ℕ, ◌+◌, ◌-◌, ◌≤◌, ◌==◌, Bool, true, false, List, count_by, Some, None}
use Rattle.std.specs.List.{sum_by}
use Rattle.hfs_fields.specs.declared.mdb.Mdb.{Mdb}
use Rattle.hfs_fields.specs.Keys.{cat_cmp}
use Rattle.hfs_fields.specs.Records.{is_dir, is_file, item_id, dir_record_of}
use Rattle.hfs_fields.specs.RecordForms.{IsDirRecordValue}
use Rattle.hfs_fields.specs.Members.{In}
use Rattle.hfs_btree.specs.Pairs.{Rises}
use Rattle.hfs_catalog.specs.Records.{Record, Catalog}
use Rattle.hfs_catalog.specs.Lookups.{thread_of}
use Rattle.hfs_catalog.specs.Sound.{AreCountsSound}
use Rattle.hfs_catalog.specs.Items.{items_in}
use Rattle.hfs_model.specs.declared.call.Call.{Call}
use Rattle.hfs_model.specs.declared.call.Call.TheVariants as call
use Rattle.hfs_model.specs.Volume.{Items}
use Rattle.hfs_model.specs.Choices.{to_delete}
use Rattle.hfs_model.specs.Step.{step}
use Rattle.hfs_check.specs.Parts.{Blocks, mdb_in, catalog_in}
use Rattle.hfs_check.specs.Sound.{AreBlocksSound}
use Rattle.hfs_check.specs.VolumeOf.{contents_in, volume_in}
use Rattle.hfs_record_edits.specs.Changes.{IsFolderWith, with_children, folder_with}
use Rattle.hfs_record_edits.proofs.ChangesLaws.{KeepsOthers}
use Rattle.hfs_record_edits.specs.Swaps.{Swaps, one_if}
use Rattle.hfs_record_edits.specs.Sound.{IsNearlySound}
use Rattle.hfs_record_edits.specs.OnBlocks.{HasTree}
use Rattle.hfs_record_edits.specs.Laws.{MakesStep}
use Rattle.hfs_record_edits.specs.SettingLaws.{IsChoice}
use Rattle.hfs_record_edits.specs.RemovalLaws.{without_folder}

-- ---- the records

-- the item's record went, then its thread's if it has one, and then came its folder's with one child fewer and this moment
pub record HasDroppedItem (id dir : ℕ) (item r : Record) (now : ℕ) (old new : Catalog) : Type 0 where
  pub first : Catalog
  pub second : Catalog
  pub item_went : Swaps (Some item) None old first
  pub thread_went : Swaps (thread_of old id) None first second
  pub folder_set : Swaps (Some r) (Some (folder_with ((dir_record_of r.1).valence - 1) now r)) second new
  pub parent : IsFolderWith old dir r
  pub value : IsDirRecordValue (with_children ((dir_record_of r.1).valence - 1) now (dir_record_of r.1))

pub record HasDroppedFolder (id dir : ℕ) (item r : Record) (now : ℕ) (old new : Blocks) : Type 0 where
  pub was : is_dir item.1 ≡ true
  pub dropped : HasDroppedItem id dir item r now (catalog_in old) (catalog_in new)
  pub tree : HasTree (without_folder dir now (mdb_in old)) old new

abbrev pub DeleteFolderMakes : Type 0
DeleteFolderMakes =
    (total now dir : ℕ) (name : List ℕ) (item r : Record) (old new : Blocks) → AreBlocksSound total old → (c : IsChoice old (to_delete (volume_in old) dir name) item)
    → HasDroppedFolder c.id dir item r now old new → MakesStep (call.Delete dir name now) (without_folder dir now (mdb_in old)) old new

-- ---- a file

-- with one file fewer, and so many free blocks
abbrev pub without_file : ℕ → ℕ → ℕ → Mdb → Mdb
without_file dir free now mdb = record mdb { modified = now; root_files = mdb.root_files - one_if (dir == 2); files = mdb.files - 1; free_blocks = free }

-- the keys rise, and the forks of the other files have the bytes that they had
pub record HasDroppedFile (id dir : ℕ) (item r : Record) (now : ℕ) (old new : Blocks) : Type 0 where
  pub was : is_file item.1 ≡ true
  pub dropped : HasDroppedItem id dir item r now (catalog_in old) (catalog_in new)
  pub rises : Rises cat_cmp (catalog_in new)
  pub kept : KeepsOthers id (contents_in old) (contents_in new) (catalog_in old)

-- what a step's edits are to give of the catalog's records and items, and of the counts
pub record HoldsStep (c : Call) (counts : Mdb) (old new : Blocks) : Type 0 where
  pub near : IsNearlySound (catalog_in new)
  pub items : Items
  pub held : items_in (contents_in new) (catalog_in new) ≡ items
  pub made : (step (volume_in old) c).0 ≡ record (volume_in old) { items = items; next_id = counts.next_id; changed = counts.modified }
  pub least : 16 ≤ counts.next_id
  pub numbers : AreCountsSound counts (catalog_in new)

abbrev pub DeleteFileHolds : Type 0
DeleteFileHolds =
    (total now dir free : ℕ) (name : List ℕ) (item r : Record) (old new : Blocks) → AreBlocksSound total old → (c : IsChoice old (to_delete (volume_in old) dir name) item)
    → HasDroppedFile c.id dir item r now old new → HoldsStep (call.Delete dir name now) (without_file dir free now (mdb_in old)) old new

-- one of the files' records is gone
pub record LeavesFiles (item : Record) (old new : Catalog) : Type 0 where
  pub sums : (f : Record → ℕ) → ((x : Record) → is_file x.1 ≡ false → f x ≡ 0) → sum_by f new + f item ≡ sum_by f old
  pub counts : (p : Record → Bool) → ((x : Record) → is_file x.1 ≡ false → p x ≡ false) → count_by p new + one_if (p item) ≡ count_by p old
  pub files : (x : Record) → In x new → is_file x.1 ≡ true → In x old × (item_id x.1 ≢ item_id item.1)

abbrev pub DeleteLeavesFiles : Type 0
DeleteLeavesFiles =
    (total now dir : ℕ) (name : List ℕ) (item r : Record) (old : Blocks) (new : Catalog) → AreBlocksSound total old → (c : IsChoice old (to_delete (volume_in old) dir name) item)
    → HasDroppedItem c.id dir item r now (catalog_in old) new → LeavesFiles item (catalog_in old) new
