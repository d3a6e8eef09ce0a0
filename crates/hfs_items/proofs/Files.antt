-- The file of a name.
use Rattle.std.proofs.Common.{◌≡◌, ℕ, Bool, true, false, cond, List, refl, sym, ◌∙◌, ap, Option, Some, None, Ok, Err}
use Rattle.std.specs.Prelude.{not}
use Rattle.std.specs.Option.{option_map}
use Rattle.std.proofs.lemmas.Option.{none-some, same_Some}
use Rattle.hfs_fields.specs.Names.{is_item_name}
use Rattle.hfs_fields.specs.Records.{is_dir, dir_record_of, file_record_of}
use Rattle.hfs_fields.specs.declared.dir_record.DirRecord.{DirRecord}
use Rattle.hfs_fields.specs.declared.file_record.FileRecord.{FileRecord}
use Rattle.hfs_model.specs.declared.codes.TheConstants.{BAD_NAME, NOT_FOUND, NOT_A_FOLDER}
use Rattle.hfs_model.specs.declared.reply.Reply.{Reply}
use Rattle.hfs_model.specs.Replies.{refusal}
use Rattle.hfs_catalog.specs.declared.item.ItemRecord.TheVariants.{Folder, File}
use Rattle.hfs_catalog.specs.declared.item.CatalogItem.{CatalogItem}
use Rattle.hfs_catalog.specs.Records.{Record, Catalog}
use Rattle.hfs_catalog.specs.Lookups.{catalog_item, child_named}
use Rattle.hfs_items.specs.Told.{is_folder, only_file, file_named}
use Rattle.hfs_items.proofs.FolderLemmas.{folder_not_file}

pub same_file : (f g : FileRecord) → File f ≡ File g → f ≡ g
same_file f g e = cc

module _ (catalog : Catalog) (dir : ℕ) (name : List ℕ) (named : is_item_name name ≡ true) (folder : is_folder catalog dir ≡ true) where
  file_named_is : file_named catalog dir name ≡ only_file (child_named catalog dir name)
  file_named_is =
      ap (λ b. cond (not b) (Err (refusal BAD_NAME)) (cond (not (is_folder catalog dir)) (Err (refusal NOT_A_FOLDER)) (only_file (child_named catalog dir name)))) named
      ∙ ap (λ b. cond (not b) (Err (refusal NOT_A_FOLDER)) (only_file (child_named catalog dir name))) folder

  pub of_folder : (item : CatalogItem) (d : DirRecord) (other : List ℕ) (reply : Reply) → other ≡ name → reply ≡ refusal NOT_FOUND
      → Some item ≡ option_map catalog_item (child_named catalog dir other) → item.body ≡ Folder d → Err reply ≡ file_named catalog dir name
  unfolding catalog_item
  of_folder item d other reply same_name refused is body = ap Err refused ∙ sym (file_named_is ∙ elim (child_named catalog dir name) as (λ (o : Option Record). Some item ≡ option_map catalog_item o → only_file o ≡ Err (refusal NOT_FOUND)) [
    | None ↦ λ e. absurd (none-some item (sym e))
    | Some r ↦ λ e.
        let same = same_Some item (catalog_item r) e in
        elim (is_dir r.1) as (λ (b : Bool). cond b (Folder (dir_record_of r.1)) (File (file_record_of r.1)) ≡ Folder d → cond b (Err (refusal NOT_FOUND)) (Ok (file_record_of r.1)) ≡ Err (refusal NOT_FOUND)) [
          | true ↦ λ e'. refl
          | false ↦ λ e'. absurd (folder_not_file d _ (sym e'))
        ] (ap (λ (i : CatalogItem). i.body) (sym same) ∙ body)
  ] (is ∙ ap (λ n. option_map catalog_item (child_named catalog dir n)) same_name))

  pub of_file : (item : CatalogItem) (f : FileRecord) (other : List ℕ) → other ≡ name
      → Some item ≡ option_map catalog_item (child_named catalog dir other) → item.body ≡ File f → Ok f ≡ file_named catalog dir name
  unfolding catalog_item
  of_file item f other same_name is body = sym (file_named_is ∙ elim (child_named catalog dir name) as (λ (o : Option Record). Some item ≡ option_map catalog_item o → only_file o ≡ Ok f) [
    | None ↦ λ e. absurd (none-some item (sym e))
    | Some r ↦ λ e.
        let same = same_Some item (catalog_item r) e in
        elim (is_dir r.1) as (λ (b : Bool). cond b (Folder (dir_record_of r.1)) (File (file_record_of r.1)) ≡ File f → cond b (Err (refusal NOT_FOUND)) (Ok (file_record_of r.1)) ≡ Ok f) [
          | true ↦ λ e'. absurd (folder_not_file _ f e')
          | false ↦ λ e'. ap Ok (same_file _ f e')
        ] (ap (λ (i : CatalogItem). i.body) (sym same) ∙ body)
  ] (is ∙ ap (λ n. option_map catalog_item (child_named catalog dir n)) same_name))
