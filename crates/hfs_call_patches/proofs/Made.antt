-- A record with other settings, put in the place of the one that a call chose, is the call's step.
use Rattle.std.proofs.Common.{◌≡◌, ℕ, Bool, true, List, sym, subst, ap, ◌∙◌}
use Rattle.std.specs.Prelude.{Result, Ok, Err, IfOk}
use Rattle.hfs_fields.specs.declared.key.CatKey.{CatKey}
use Rattle.hfs_fields.specs.declared.mdb.Mdb.{Mdb}
use Rattle.hfs_fields.specs.declared.dir_record.DirRecord.{DirRecord}
use Rattle.hfs_fields.specs.declared.file_record.FileRecord.{FileRecord}
use Rattle.hfs_fields.specs.Keys.{cat_cmp}
use Rattle.hfs_fields.specs.Records.{is_dir, is_file}
use Rattle.hfs_fields.specs.RecordForms.{IsDirRecordValue, dir_record_bytes, IsFileRecordValue, file_record_bytes}
use Rattle.hfs_btree_edits.specs.Edits.{with_replaced}
use Rattle.hfs_catalog.specs.Records.{Record}
use Rattle.hfs_check.specs.Parts.{Blocks, mdb_in, catalog_in}
use Rattle.hfs_check.specs.Sound.{AreBlocksSound}
use Rattle.hfs_record_edits.specs.OnBlocks.{at_time, HasTree}
use Rattle.hfs_record_edits.proofs.SettingLaws.{HasSetBody, HasSetFile, HasSetFolder, with_info, with_told, with_told_folder, with_lock_bit, SetFInfoMakes, SetFileInfoMakes, SetFolderInfoMakes, SetLockMakes}
use Rattle.hfs_model.specs.declared.settings.ItemSettings.{ItemSettings}
use Rattle.hfs_call_patches.specs.Settings.{HasSetRecord, MakesSetFInfo, MakesSetFileInfo, MakesSetFolderInfo, MakesSetLock}

module _ (total now : ℕ) (mdb counts : Mdb) (key : CatKey) (old new : Blocks) (h : AreBlocksSound total old) (own : mdb ≡ mdb_in old) (at : counts ≡ at_time now mdb) where
  counts_are : counts ≡ at_time now (mdb_in old)
  counts_are = at ∙ ap (at_time now) own

  body_set : (r : Record) (body : List ℕ) → r.0 ≡ key → HasSetRecord key body counts old new → HasSetBody r body now old new
  body_set r body same set = record {
    content = set.content ∙ ap (λ (k : CatKey). with_replaced cat_cmp k body (catalog_in old)) (sym same);
    tree = subst (λ (m : Mdb). HasTree m old new) counts_are set.tree;
  }

  file_set : (r : Record) (file : FileRecord) → r.0 ≡ key → is_file r.1 ≡ true → IsFileRecordValue file → HasSetRecord key (file_record_bytes file) counts old new → HasSetFile r file now old new
  file_set r file same is value set = record { was = is; value = value; set = body_set r (file_record_bytes file) same set }

  folder_set : (r : Record) (folder : DirRecord) → r.0 ≡ key → is_dir r.1 ≡ true → IsDirRecordValue folder → HasSetRecord key (dir_record_bytes folder) counts old new → HasSetFolder r folder now old new
  folder_set r folder same is value set = record { was = is; value = value; set = body_set r (dir_record_bytes folder) same set }

  pub f_info_made : SetFInfoMakes → (file : FileRecord) (info : List ℕ) → IsFileRecordValue (with_info info file) → HasSetRecord key (file_record_bytes (with_info info file)) counts old new
      → MakesSetFInfo key file info now old new
  f_info_made law file info value set dir name c =
      law total now dir name info c.of old new h c.choice
      (subst (λ (f : FileRecord). HasSetFile c.of (with_info info f) now old new) (sym c.own_file) (file_set c.of (with_info info file) c.own_key c.is value set))

  pub file_info_made : SetFileInfoMakes → (file : FileRecord) (s : ItemSettings) → IsFileRecordValue (with_told s.created s.modified s.backup s.info file)
      → HasSetRecord key (file_record_bytes (with_told s.created s.modified s.backup s.info file)) counts old new → MakesSetFileInfo key file s now old new
  file_info_made law file s value set dir name c =
      law total now dir s.created s.modified s.backup name s.info c.of old new h c.choice
      (subst (λ (f : FileRecord). HasSetFile c.of (with_told s.created s.modified s.backup s.info f) now old new) (sym c.own_file)
      (file_set c.of (with_told s.created s.modified s.backup s.info file) c.own_key c.is value set))

  pub folder_info_made : SetFolderInfoMakes → (folder : DirRecord) (s : ItemSettings) → IsDirRecordValue (with_told_folder s.created s.modified s.backup s.info folder)
      → HasSetRecord key (dir_record_bytes (with_told_folder s.created s.modified s.backup s.info folder)) counts old new → MakesSetFolderInfo key folder s now old new
  folder_info_made law folder s value set dir name c =
      law total now dir s.created s.modified s.backup name s.info c.of old new h c.choice
      (subst (λ (d : DirRecord). HasSetFolder c.of (with_told_folder s.created s.modified s.backup s.info d) now old new) (sym c.own_folder)
      (folder_set c.of (with_told_folder s.created s.modified s.backup s.info folder) c.own_key c.is value set))

  pub lock_made : SetLockMakes → (locked : Bool) (file : FileRecord) → IsFileRecordValue (with_lock_bit locked file) → HasSetRecord key (file_record_bytes (with_lock_bit locked file)) counts old new
      → MakesSetLock locked key file now old new
  lock_made law locked file value set dir name c =
      law locked total now dir name c.of old new h c.choice
      (subst (λ (f : FileRecord). HasSetFile c.of (with_lock_bit locked f) now old new) (sym c.own_file) (file_set c.of (with_lock_bit locked file) c.own_key c.is value set))
