-- What holds of Create and DirCreate. Each statement is what a function of src/creation.rt ensures.
use Rattle.std.specs.Prelude.{◌≡◌, ℕ, ◌+◌, List, None, Some, Ok}
use Rattle.hfs_fields.specs.declared.thread_record.ThreadKind.TheVariants as kind
use Rattle.hfs_fields.specs.Records.{dir_record_of, new_thread, new_dir, new_file}
use Rattle.hfs_fields.specs.RecordForms.{IsThreadRecordValue, IsDirRecordValue, IsFileRecordValue}
use Rattle.hfs_catalog.specs.Records.{Record, Catalog}
use Rattle.hfs_model.specs.declared.call.Call.TheVariants as call
use Rattle.hfs_model.specs.Choices.{to_create}
use Rattle.hfs_check.specs.Parts.{Blocks, mdb_in, catalog_in}
use Rattle.hfs_check.specs.Sound.{AreBlocksSound}
use Rattle.hfs_check.specs.VolumeOf.{volume_in}
use Rattle.hfs_record_edits.specs.Changes.{thread_record, IsFolderWith, with_children, folder_with}
use Rattle.hfs_record_edits.specs.Swaps.{Swaps}
use Rattle.hfs_record_edits.specs.OnBlocks.{HasTree}
use Rattle.hfs_record_edits.specs.Laws.{MakesStep}
use Rattle.hfs_record_edits.specs.CreationLaws.{file_record_in, folder_record_in, with_file, with_folder}

-- a new file's record came under the next ID, and then its folder's with one more child and this moment
pub record HasAddedFile (next dir : ℕ) (name : List ℕ) (r : Record) (now : ℕ) (old new : Blocks) : Type 0 where
  pub first : Catalog
  pub file_came : Swaps None (Some (file_record_in next dir name now)) (catalog_in old) first
  pub folder_set : Swaps (Some r) (Some (folder_with ((dir_record_of r.1).valence + 1) now r)) first (catalog_in new)
  pub parent : IsFolderWith (catalog_in old) dir r
  pub file_value : IsFileRecordValue (new_file next now)
  pub folder_value : IsDirRecordValue (with_children ((dir_record_of r.1).valence + 1) now (dir_record_of r.1))
  pub tree : HasTree (with_file dir now (mdb_in old)) old new

abbrev pub CreateMakes : Type 0
CreateMakes =
    (total now dir : ℕ) (name : List ℕ) (r : Record) (old new : Blocks) → AreBlocksSound total old → to_create (volume_in old) dir name ≡ Ok (mdb_in old).next_id
    → HasAddedFile (mdb_in old).next_id dir name r now old new → MakesStep (call.Create dir name now) (with_file dir now (mdb_in old)) old new

-- a new folder's record came under the next ID, then its thread's, and then its folder's with one more child and this moment
pub record HasAddedFolder (next dir : ℕ) (name : List ℕ) (r : Record) (now : ℕ) (old new : Blocks) : Type 0 where
  pub first : Catalog
  pub second : Catalog
  pub folder_came : Swaps None (Some (folder_record_in next dir name now)) (catalog_in old) first
  pub thread_came : Swaps None (Some (thread_record next (new_thread kind.Folder dir name))) first second
  pub folder_set : Swaps (Some r) (Some (folder_with ((dir_record_of r.1).valence + 1) now r)) second (catalog_in new)
  pub parent : IsFolderWith (catalog_in old) dir r
  pub new_value : IsDirRecordValue (new_dir next now)
  pub thread_value : IsThreadRecordValue (new_thread kind.Folder dir name)
  pub folder_value : IsDirRecordValue (with_children ((dir_record_of r.1).valence + 1) now (dir_record_of r.1))
  pub tree : HasTree (with_folder dir now (mdb_in old)) old new

abbrev pub DirCreateMakes : Type 0
DirCreateMakes =
    (total now dir : ℕ) (name : List ℕ) (r : Record) (old new : Blocks) → AreBlocksSound total old → to_create (volume_in old) dir name ≡ Ok (mdb_in old).next_id
    → HasAddedFolder (mdb_in old).next_id dir name r now old new → MakesStep (call.DirCreate dir name now) (with_folder dir now (mdb_in old)) old new
