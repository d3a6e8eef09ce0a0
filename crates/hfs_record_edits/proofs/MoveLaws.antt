-- What holds of CatMove. Each statement is what a function of src/moves.rt ensures.
use Rattle.std.specs.Prelude.{ℕ, ◌+◌, ◌-◌, List, Some}
use Rattle.hfs_fields.specs.Records.{is_dir, dir_record_of}
use Rattle.hfs_fields.specs.RecordForms.{IsDirRecordValue}
use Rattle.hfs_catalog.specs.Records.{Record, Catalog}
use Rattle.hfs_catalog.specs.Lookups.{thread_of}
use Rattle.hfs_model.specs.declared.call.Call.TheVariants as call
use Rattle.hfs_model.specs.Choices.{to_move}
use Rattle.hfs_check.specs.Parts.{Blocks, mdb_in, catalog_in}
use Rattle.hfs_check.specs.Sound.{AreBlocksSound}
use Rattle.hfs_check.specs.VolumeOf.{volume_in}
use Rattle.hfs_record_edits.specs.Changes.{IsFolderWith, with_children, folder_with}
use Rattle.hfs_record_edits.proofs.ChangesLaws.{led_to, IsLedValue, ItemRekeyed}
use Rattle.hfs_record_edits.specs.Swaps.{Swaps}
use Rattle.hfs_record_edits.specs.OnBlocks.{HasTree}
use Rattle.hfs_record_edits.specs.Laws.{MakesStep}
use Rattle.hfs_record_edits.specs.SettingLaws.{IsChoice}
use Rattle.hfs_record_edits.specs.MoveLaws.{under_folder, with_moved}

-- the item's record came under the other folder; then its thread's, if it has one, was led there; then the record of the folder
-- that it left, and then that of the folder that it came to, with one child fewer and one more, and this moment
pub record HasMovedItem (id from to : ℕ) (r r1 r2 : Record) (now : ℕ) (old new : Catalog) : Type 0 where
  pub second : Catalog
  pub middle : Catalog
  pub third : Catalog
  pub item_moved : ItemRekeyed r (under_folder to r) old second
  pub thread_set : Swaps (thread_of old id) (led_to id (under_folder to r).0 (thread_of old id)) second middle
  pub first_set : Swaps (Some r1) (Some (folder_with ((dir_record_of r1.1).valence - 1) now r1)) middle third
  pub second_set : Swaps (Some r2) (Some (folder_with ((dir_record_of r2.1).valence + 1) now r2)) third new
  pub thread_value : IsLedValue (under_folder to r).0 (thread_of old id)
  pub left : IsFolderWith old from r1
  pub left_value : IsDirRecordValue (with_children ((dir_record_of r1.1).valence - 1) now (dir_record_of r1.1))
  pub entered : IsFolderWith old to r2
  pub entered_value : IsDirRecordValue (with_children ((dir_record_of r2.1).valence + 1) now (dir_record_of r2.1))

pub record HasMovedTo (id from to : ℕ) (r r1 r2 : Record) (now : ℕ) (old new : Blocks) : Type 0 where
  pub moved : HasMovedItem id from to r r1 r2 now (catalog_in old) (catalog_in new)
  pub tree : HasTree (with_moved (is_dir r.1) from to now (mdb_in old)) old new

abbrev pub CatMoveMakes : Type 0
CatMoveMakes =
    (total now dir new_dir : ℕ) (name : List ℕ) (r r1 r2 : Record) (old new : Blocks) → AreBlocksSound total old
    → (c : IsChoice old (to_move (volume_in old) dir name new_dir) r) → HasMovedTo c.id dir new_dir r r1 r2 now old new
    → MakesStep (call.CatMove dir name new_dir now) (with_moved (is_dir r.1) dir new_dir now (mdb_in old)) old new
