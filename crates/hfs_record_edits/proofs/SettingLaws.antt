-- What holds of the calls that set what is told of an item, and its name. Each statement is what a function of src/settings.rt ensures.
use Rattle.std.specs.Prelude.{◌≡◌, ℕ, ℤ, Bool, true, List, take, drop, Some, Result}
use Rattle.hfs_fields.specs.declared.dir_record.DirRecord.{DirRecord}
use Rattle.hfs_fields.specs.declared.file_record.FileRecord.{FileRecord}
use Rattle.hfs_fields.specs.Keys.{cat_cmp}
use Rattle.hfs_fields.specs.Records.{is_dir, is_file, dir_record_of, file_record_of, with_bit}
use Rattle.hfs_fields.specs.RecordForms.{IsDirRecordValue, dir_record_bytes, IsFileRecordValue, file_record_bytes}
use Rattle.hfs_btree.specs.Pairs.{lookup}
use Rattle.hfs_btree_edits.specs.Edits.{with_replaced}
use Rattle.hfs_catalog.specs.Records.{Record, Catalog}
use Rattle.hfs_catalog.specs.Lookups.{thread_of}
use Rattle.hfs_model.specs.declared.call.Call.TheVariants as call
use Rattle.hfs_model.specs.Volume.{Entry}
use Rattle.hfs_model.specs.Choices.{file_to_change, to_rename, to_set_f_info, to_set_cat_info}
use Rattle.hfs_check.specs.Parts.{Blocks, mdb_in, catalog_in}
use Rattle.hfs_check.specs.Sound.{AreBlocksSound}
use Rattle.hfs_check.specs.VolumeOf.{volume_in}
use Rattle.hfs_record_edits.proofs.ChangesLaws.{led_to, IsLedValue, ItemRekeyed}
use Rattle.hfs_record_edits.specs.Swaps.{Swaps}
use Rattle.hfs_record_edits.specs.OnBlocks.{at_time, HasTree}
use Rattle.hfs_record_edits.specs.SettingLaws.{IsChoice, MakesAt, lock_call, with_name}

-- then the record stands under its key
abbrev pub ChoiceStands : Type 0
ChoiceStands = (total : ℕ) (chosen : Result Entry ℤ) (r : Record) (old : Blocks) → AreBlocksSound total old → IsChoice old chosen r → lookup cat_cmp r.0 (catalog_in old) ≡ Some r.1

-- ---- what is edited

-- a body stands in the place of the record's, and the moment of the last change is now
pub record HasSetBody (r : Record) (body : List ℕ) (now : ℕ) (old new : Blocks) : Type 0 where
  pub content : catalog_in new ≡ with_replaced cat_cmp r.0 body (catalog_in old)
  pub tree : HasTree (at_time now (mdb_in old)) old new

-- a file has this record now
pub record HasSetFile (r : Record) (file : FileRecord) (now : ℕ) (old new : Blocks) : Type 0 where
  pub was : is_file r.1 ≡ true
  pub value : IsFileRecordValue file
  pub set : HasSetBody r (file_record_bytes file) now old new

-- a folder has this record now
pub record HasSetFolder (r : Record) (folder : DirRecord) (now : ℕ) (old new : Blocks) : Type 0 where
  pub was : is_dir r.1 ≡ true
  pub value : IsDirRecordValue folder
  pub set : HasSetBody r (dir_record_bytes folder) now old new

-- the file's record, with other first Finder bytes
abbrev pub with_info : List ℕ → FileRecord → FileRecord
with_info info f = record f { finder_info = info }

-- with three other dates and other Finder bytes
abbrev pub with_told : ℕ → ℕ → ℕ → List ℕ → FileRecord → FileRecord
with_told created modified backup info f = record f { created = created; modified = modified; backup = backup; finder_info = take 16 info; extended_finder_info = drop 16 info }

-- the folder's record, with three other dates and other Finder bytes
abbrev pub with_told_folder : ℕ → ℕ → ℕ → List ℕ → DirRecord → DirRecord
with_told_folder created modified backup info d = record d { created = created; modified = modified; backup = backup; finder_info = take 16 info; extended_finder_info = drop 16 info }

-- the file's record, locked or not
abbrev pub with_lock_bit : Bool → FileRecord → FileRecord
with_lock_bit locked f = record f { flags = record { 0 = with_bit 0 locked f.flags.0 } }

abbrev pub SetFInfoMakes : Type 0
SetFInfoMakes =
    (total now dir : ℕ) (name info : List ℕ) (r : Record) (old new : Blocks) → AreBlocksSound total old → IsChoice old (to_set_f_info (volume_in old) dir name) r
    → HasSetFile r (with_info info (file_record_of r.1)) now old new → MakesAt (call.SetFInfo dir name info now) now old new

abbrev pub SetFileInfoMakes : Type 0
SetFileInfoMakes =
    (total now dir created modified backup : ℕ) (name info : List ℕ) (r : Record) (old new : Blocks) → AreBlocksSound total old → IsChoice old (to_set_cat_info (volume_in old) dir name) r
    → HasSetFile r (with_told created modified backup info (file_record_of r.1)) now old new → MakesAt (call.SetCatInfo dir name created modified backup info now) now old new

abbrev pub SetFolderInfoMakes : Type 0
SetFolderInfoMakes =
    (total now dir created modified backup : ℕ) (name info : List ℕ) (r : Record) (old new : Blocks) → AreBlocksSound total old → IsChoice old (to_set_cat_info (volume_in old) dir name) r
    → HasSetFolder r (with_told_folder created modified backup info (dir_record_of r.1)) now old new → MakesAt (call.SetCatInfo dir name created modified backup info now) now old new

abbrev pub SetLockMakes : Type 0
SetLockMakes =
    (locked : Bool) (total now dir : ℕ) (name : List ℕ) (r : Record) (old new : Blocks) → AreBlocksSound total old → IsChoice old (file_to_change (volume_in old) dir name) r
    → HasSetFile r (with_lock_bit locked (file_record_of r.1)) now old new → MakesAt (lock_call locked dir name now) now old new

-- the item's record stands under its key with the new name, with the body that it had, and its thread's, if it has one, was led there
pub record HasRenamed (id : ℕ) (r : Record) (new_name : List ℕ) (now : ℕ) (old new : Blocks) : Type 0 where
  pub second : Catalog
  pub item_moved : ItemRekeyed r (with_name new_name r) (catalog_in old) second
  pub thread_set : Swaps (thread_of (catalog_in old) id) (led_to id (with_name new_name r).0 (thread_of (catalog_in old) id)) second (catalog_in new)
  pub thread_value : IsLedValue (with_name new_name r).0 (thread_of (catalog_in old) id)
  pub tree : HasTree (at_time now (mdb_in old)) old new

abbrev pub RenameMakes : Type 0
RenameMakes =
    (total now dir : ℕ) (name new_name : List ℕ) (r : Record) (old new : Blocks) → AreBlocksSound total old
    → (c : IsChoice old (to_rename (volume_in old) dir name new_name) r) → HasRenamed c.id r new_name now old new → MakesAt (call.Rename dir name new_name now) now old new
