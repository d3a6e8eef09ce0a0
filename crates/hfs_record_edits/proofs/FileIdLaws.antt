-- What holds of CreateFileId and DeleteFileId. Each statement is what a function of src/file_ids.rt ensures.
use Rattle.std.specs.Prelude.{◌≡◌, ℕ, Bool, true, false, List, Some, None}
use Rattle.hfs_fields.specs.declared.thread_record.ThreadKind.TheVariants as kind
use Rattle.hfs_fields.specs.Records.{is_file, file_record_of, new_thread}
use Rattle.hfs_fields.specs.RecordForms.{IsThreadRecordValue, IsFileRecordValue, file_record_bytes}
use Rattle.hfs_catalog.specs.Records.{Record, Catalog}
use Rattle.hfs_catalog.specs.Lookups.{thread_of}
use Rattle.hfs_model.specs.declared.call.Call.TheVariants as call
use Rattle.hfs_model.specs.FileIds.{to_create_file_id, to_delete_file_id}
use Rattle.hfs_check.specs.Parts.{Blocks, mdb_in, catalog_in}
use Rattle.hfs_check.specs.Sound.{AreBlocksSound}
use Rattle.hfs_check.specs.VolumeOf.{volume_in}
use Rattle.hfs_record_edits.specs.Changes.{thread_record}
use Rattle.hfs_record_edits.specs.Swaps.{Swaps}
use Rattle.hfs_record_edits.specs.OnBlocks.{at_time, HasTree}
use Rattle.hfs_record_edits.specs.SettingLaws.{IsChoice, MakesAt}
use Rattle.hfs_record_edits.specs.FileIdLaws.{with_thread_flag}

abbrev pub file_with_flag : Bool → Record → Record
file_with_flag there r = (r.0, file_record_bytes (with_thread_flag there (file_record_of r.1)))

-- the file's record with the flag stands in its place, and then came a thread's, which leads to the file
pub record HasThreadCome (id : ℕ) (r : Record) (now : ℕ) (old new : Blocks) : Type 0 where
  pub second : Catalog
  pub file_set : Swaps (Some r) (Some (file_with_flag true r)) (catalog_in old) second
  pub thread_came : Swaps None (Some (thread_record id (new_thread kind.File r.0.parent r.0.name))) second (catalog_in new)
  pub was : is_file r.1 ≡ true
  pub value : IsFileRecordValue (with_thread_flag true (file_record_of r.1))
  pub thread_value : IsThreadRecordValue (new_thread kind.File r.0.parent r.0.name)
  pub tree : HasTree (at_time now (mdb_in old)) old new

-- the file's record without the flag stands in its place, and then its thread's went
pub record HasThreadGone (id : ℕ) (r : Record) (now : ℕ) (old new : Blocks) : Type 0 where
  pub second : Catalog
  pub file_set : Swaps (Some r) (Some (file_with_flag false r)) (catalog_in old) second
  pub thread_went : Swaps (thread_of second id) None second (catalog_in new)
  pub was : is_file r.1 ≡ true
  pub value : IsFileRecordValue (with_thread_flag false (file_record_of r.1))
  pub tree : HasTree (at_time now (mdb_in old)) old new

abbrev pub CreateFileIdMakes : Type 0
CreateFileIdMakes =
    (total now dir : ℕ) (name : List ℕ) (r : Record) (old new : Blocks) → AreBlocksSound total old → (c : IsChoice old (to_create_file_id (volume_in old) dir name) r)
    → HasThreadCome c.id r now old new → MakesAt (call.CreateFileId dir name now) now old new

abbrev pub DeleteFileIdMakes : Type 0
DeleteFileIdMakes =
    (total now id : ℕ) (r : Record) (old new : Blocks) → AreBlocksSound total old → (c : IsChoice old (to_delete_file_id (volume_in old) id) r)
    → HasThreadGone c.id r now old new → MakesAt (call.DeleteFileId id now) now old new
