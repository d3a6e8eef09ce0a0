-- The items that calls choose.
use Rattle.std.proofs.Common.{◌≡◌, ℤ, Bool, true, false, cond, refl, sym, ◌∙◌, ap, Ok, Err, Result}
use Rattle.std.specs.Prelude.{not, ◌&&◌}
use Rattle.hfs_fields.specs.Records.{is_dir, is_bit_set, dir_record_of, file_record_of}
use Rattle.hfs_fields.specs.declared.dir_record.DirRecord.{DirRecord}
use Rattle.hfs_fields.specs.declared.file_record.FileRecord.{FileRecord}
use Rattle.hfs_model.specs.declared.codes.TheConstants.{NOT_FOUND, FILE_LOCKED}
use Rattle.hfs_model.specs.Choices.{and_then}
use Rattle.hfs_catalog.specs.declared.item.ItemRecord.TheVariants.{Folder, File}
use Rattle.hfs_catalog.specs.declared.item.CatalogItem.{CatalogItem}
use Rattle.hfs_catalog.specs.Records.{Record}
use Rattle.hfs_catalog.specs.Lookups.{catalog_item}
use Rattle.hfs_call_edits.specs.Choosing.{map_ok, only_file, is_locked, unless_locked, file_part, is_locked_body, is_locked_item}
use Rattle.hfs_items.proofs.FolderLemmas.{folder_not_file}
use Rattle.hfs_items.proofs.Files.{same_file}
use Rattle.hfs_record_edits.proofs.Chosen.{same_ok}
use Rattle.hfs_model.proofs.KeepsCalls.{err_is_ok}

-- ---- what is chosen of it

module _ (chosen : Result Record ℤ) (item : CatalogItem) (is : Ok item ≡ map_ok catalog_item chosen) where
  pub next_folder : (d : DirRecord) → item.body ≡ Folder d → Err NOT_FOUND ≡ map_ok file_part (and_then chosen only_file)
  unfolding catalog_item
  next_folder d body = elim chosen as (λ (c : Result Record ℤ). Ok item ≡ map_ok catalog_item c → Err NOT_FOUND ≡ map_ok file_part (and_then c only_file)) [
    | Ok r ↦ λ e.
        elim (is_dir r.1) as (λ (b : Bool). cond b (Folder (dir_record_of r.1)) (File (file_record_of r.1)) ≡ Folder d → Err NOT_FOUND ≡ map_ok file_part (cond b (Err NOT_FOUND) (Ok r))) [
          | true ↦ λ e'. refl
          | false ↦ λ e'. absurd (folder_not_file d _ (sym e'))
        ] (ap (λ (i : CatalogItem). i.body) (sym (same_ok item (catalog_item r) e)) ∙ body)
    | Err code ↦ λ e. absurd (err_is_ok code item (sym e))
  ] is

  pub next_file : (f : FileRecord) → item.body ≡ File f → Ok (item.key, f) ≡ map_ok file_part (and_then chosen only_file)
  unfolding catalog_item
  next_file f body = elim chosen as (λ (c : Result Record ℤ). Ok item ≡ map_ok catalog_item c → Ok (item.key, f) ≡ map_ok file_part (and_then c only_file)) [
    | Ok r ↦ λ e.
        let same = same_ok item (catalog_item r) e in
        elim (is_dir r.1) as (λ (b : Bool). cond b (Folder (dir_record_of r.1)) (File (file_record_of r.1)) ≡ File f → Ok (item.key, f) ≡ map_ok file_part (cond b (Err NOT_FOUND) (Ok r))) [
          | true ↦ λ e'. absurd (folder_not_file _ f e')
          | false ↦ λ e'. λ i. Ok ((same i).key, sym (same_file _ f e') i)
        ] (ap (λ (i : CatalogItem). i.body) (sym same) ∙ body)
    | Err code ↦ λ e. absurd (err_is_ok code item (sym e))
  ] is

  locked_is : (r : Record) → item ≡ catalog_item r → is_locked_item item ≡ is_locked r
  unfolding catalog_item
  locked_is r same = ap is_locked_item same ∙ elim (is_dir r.1) as (λ (b : Bool). is_locked_body (cond b (Folder (dir_record_of r.1)) (File (file_record_of r.1))) ≡ (not b && is_bit_set 0 (file_record_of r.1).flags.0)) [ true ↦ refl | false ↦ refl ]

  pub next_set : (locked : Bool) → is_locked_item item ≡ locked → cond locked (Err FILE_LOCKED) (Ok item) ≡ map_ok catalog_item (and_then chosen unless_locked)
  next_set locked lock = elim chosen as (λ (c : Result Record ℤ). Ok item ≡ map_ok catalog_item c → cond locked (Err FILE_LOCKED) (Ok item) ≡ map_ok catalog_item (and_then c unless_locked)) [
    | Ok r ↦ λ e.
        let same = same_ok item (catalog_item r) e in
        by r same locked (sym (locked_is r same) ∙ lock)
    | Err code ↦ λ e. absurd (err_is_ok code item (sym e))
  ] is
    where
      by : (r : Record) → item ≡ catalog_item r → (b : Bool) → is_locked r ≡ b → cond b (Err FILE_LOCKED) (Ok item) ≡ map_ok catalog_item (unless_locked r)
      by r same true e = sym (ap (λ (b : Bool). map_ok catalog_item (cond b (Err FILE_LOCKED) (Ok r))) e)
      by r same false e = ap Ok same ∙ sym (ap (λ (b : Bool). map_ok catalog_item (cond b (Err FILE_LOCKED) (Ok r))) e)
