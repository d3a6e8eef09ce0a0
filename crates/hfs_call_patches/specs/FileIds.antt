-- What the calls on file IDs make of a catalog's nodes.
use Rattle.std.specs.Prelude.{◌≡◌, ◌≤◌, ℕ, Bool, true, false, List, Some, None}
use Rattle.hfs_fields.specs.declared.key.CatKey.{CatKey}
use Rattle.hfs_fields.specs.declared.file_record.FileRecord.{FileRecord}
use Rattle.hfs_fields.specs.declared.thread_record.ThreadKind.TheVariants as kind
use Rattle.hfs_fields.specs.Records.{new_thread}
use Rattle.hfs_fields.specs.RecordForms.{IsFileRecordValue, file_record_bytes, IsThreadRecordValue}
use Rattle.hfs_btree.specs.Tree.{Store}
use Rattle.hfs_model.specs.declared.call.Call.TheVariants as call
use Rattle.hfs_model.specs.FileIds.{to_create_file_id, to_delete_file_id}
use Rattle.hfs_catalog.specs.Records.{Record, Catalog}
use Rattle.hfs_catalog.specs.Lookups.{thread_of, first_key}
use Rattle.hfs_catalog.specs.Tree.{catalog_of}
use Rattle.hfs_record_edits.specs.Bodies.{thread_record}
use Rattle.hfs_record_edits.specs.Finds.{record_at}
use Rattle.hfs_record_edits.specs.Swaps.{Swaps}
use Rattle.hfs_check.specs.Parts.{Blocks}
use Rattle.hfs_check.specs.VolumeOf.{volume_in}
use Rattle.hfs_record_edits.specs.FileIdLaws.{with_thread_flag}
use Rattle.hfs_record_edits.specs.SettingLaws.{MakesAt}
use Rattle.hfs_call_patches.specs.CatalogPatch.{KeepsNamed}
use Rattle.hfs_call_patches.specs.Settings.{IsFileChoice}
use Rattle.hfs_fields.specs.Keys.{cat_cmp}
use Rattle.hfs_btree.specs.Pairs.{lookup}

-- the file has no thread yet; it and its folder have IDs of items
pub record IsThreadless (catalog : Catalog) (key : CatKey) (file : FileRecord) : Type 0 where
  pub folder : 2 ≤ key.parent
  pub id : 2 ≤ file.id
  pub unthreaded : thread_of catalog file.id ≡ None

-- no record is where the thread of this ID would
abbrev pub LacksThread : ℕ → Catalog → Type 0
LacksThread id catalog = lookup cat_cmp (first_key id) catalog ≡ None

-- ---- edits

-- the record under the key, now a file's with this flag
abbrev pub flagged_file : Bool → CatKey → FileRecord → Record
flagged_file there key file = (key, file_record_bytes (with_thread_flag there file))

-- the thread of a file that is under the key
abbrev pub file_thread : CatKey → FileRecord → Record
file_thread key file = thread_record file.id (new_thread kind.File key.parent key.name)

-- the file's record with the flag takes its place, and then its thread's was added
pub record FileIdCame (key : CatKey) (file : FileRecord) (old new : Store) : Type 0 where
  pub keeps : KeepsNamed old new
  pub between : Catalog
  pub file_set : Swaps (record_at key (catalog_of old)) (Some (flagged_file true key file)) (catalog_of old) between
  pub thread_came : Swaps None (Some (file_thread key file)) between (catalog_of new)
  pub value : IsFileRecordValue (with_thread_flag true file)
  pub thread_value : IsThreadRecordValue (new_thread kind.File key.parent key.name)

-- the file's record without the flag takes its place, and then its thread's went
pub record FileIdWent (key : CatKey) (file : FileRecord) (old new : Store) : Type 0 where
  pub keeps : KeepsNamed old new
  pub between : Catalog
  pub file_set : Swaps (record_at key (catalog_of old)) (Some (flagged_file false key file)) (catalog_of old) between
  pub thread_went : Swaps (thread_of between file.id) None between (catalog_of new)
  pub value : IsFileRecordValue (with_thread_flag false file)

-- ---- the file whose thread goes

-- DeleteFileId of some ID chooses the file with this key and this record
pub record IsFileToLoseId (old : Blocks) (key : CatKey) (file : FileRecord) : Type 0 where
  pub id : ℕ
  pub chosen : IsFileChoice old (to_delete_file_id (volume_in old) id) key file

-- ---- wherever a call chooses that file, its step was made

abbrev pub MakesCreateFileId : CatKey → FileRecord → ℕ → Blocks → Blocks → Type 0
MakesCreateFileId key file now old new =
    (dir : ℕ) (name : List ℕ) → IsFileChoice old (to_create_file_id (volume_in old) dir name) key file → MakesAt (call.CreateFileId dir name now) now old new

abbrev pub MakesDeleteFileId : CatKey → FileRecord → ℕ → Blocks → Blocks → Type 0
MakesDeleteFileId key file now old new =
    (id : ℕ) → IsFileChoice old (to_delete_file_id (volume_in old) id) key file → MakesAt (call.DeleteFileId id now) now old new
