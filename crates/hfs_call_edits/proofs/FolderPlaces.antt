-- Where the folder of an ID stands.
use Rattle.std.proofs.Common.{◌≡◌, ℕ, Bool, true, false, cond, refl, sym, ◌∙◌, ap, Option, Some, None}
use Rattle.std.specs.Option.{option_map, option_and_then}
use Rattle.std.proofs.lemmas.Option.{none-some, same_Some}
use Rattle.hfs_fields.specs.declared.dir_record.DirRecord.{DirRecord}
use Rattle.hfs_fields.specs.declared.file_record.FileRecord.{FileRecord}
use Rattle.hfs_fields.specs.Records.{is_dir, dir_record_of, file_record_of}
use Rattle.hfs_catalog.specs.declared.item.ItemRecord.TheVariants.{Folder, File}
use Rattle.hfs_catalog.specs.declared.item.CatalogItem.{CatalogItem}
use Rattle.hfs_catalog.specs.Records.{Record, Catalog, item_with}
use Rattle.hfs_catalog.specs.Lookups.{catalog_item}
use Rattle.hfs_items.proofs.FolderLemmas.{folder_not_file}
use Rattle.hfs_items.specs.Told.{only_folder, folder_with}
use Rattle.hfs_call_patches.specs.declared.valences.FolderPlace.{FolderPlace}
use Rattle.hfs_call_edits.specs.ChoosingMoving.{place_of, folder_place}
use Rattle.hfs_call_edits.proofs.RenameChoice.{key_is}

pub same_folder : (d e : DirRecord) → Folder d ≡ Folder e → d ≡ e
same_folder d e same = cc

body_is : (item : CatalogItem) (r : Record) → item ≡ catalog_item r → is_dir r.1 ≡ true → item.body ≡ Folder (dir_record_of r.1)
unfolding catalog_item
body_is item r same dir = ap (λ (x : CatalogItem). x.body) same ∙ ap (λ (b : Bool). cond b (Folder (dir_record_of r.1)) (File (file_record_of r.1))) dir

module _ (catalog : Catalog) (id : ℕ) (item : CatalogItem) (is : Some item ≡ option_map catalog_item (folder_with catalog id)) where
  pub place_found : (d : DirRecord) → item.body ≡ Folder d → Some (record { key = item.key; valence = d.valence }) ≡ folder_place catalog id
  place_found d body = elim (item_with catalog id) as (λ (o : Option Record). Some item ≡ option_map catalog_item (option_and_then only_folder o)
      → ◌≡◌ {A = Option FolderPlace} (Some (record { key = item.key; valence = d.valence })) (option_map place_of (option_and_then only_folder o))) [
        | None ↦ λ e. absurd (none-some item (sym e))
        | Some r ↦ λ e. elim (is_dir r.1) as (λ (b : Bool). is_dir r.1 ≡ b → Some item ≡ option_map catalog_item (cond b (Some r) None)
            → ◌≡◌ {A = Option FolderPlace} (Some (record { key = item.key; valence = d.valence })) (option_map place_of (cond b (Some r) None))) [
              | true ↦ λ dir f.
                  let same = same_Some item (catalog_item r) f in
                  let own = same_folder d (dir_record_of r.1) (sym body ∙ body_is item r same dir) in
                  let key = key_is item r same in
                  λ i. Some (record { key = key i; valence = (own i).valence })
              | false ↦ λ file f. absurd (none-some item (sym f))
            ] refl e
      ] is

  pub place_none : (f : FileRecord) → item.body ≡ File f → None ≡ folder_place catalog id
  place_none f body = elim (item_with catalog id) as (λ (o : Option Record). Some item ≡ option_map catalog_item (option_and_then only_folder o) → ◌≡◌ {A = Option FolderPlace} None (option_map place_of (option_and_then only_folder o))) [
    | None ↦ λ e. refl
    | Some r ↦ λ e. elim (is_dir r.1) as (λ (b : Bool). is_dir r.1 ≡ b → Some item ≡ option_map catalog_item (cond b (Some r) None) → ◌≡◌ {A = Option FolderPlace} None (option_map place_of (cond b (Some r) None))) [
      | true ↦ λ dir g. absurd (folder_not_file (dir_record_of r.1) f (sym (body_is item r (same_Some item (catalog_item r) g) dir) ∙ body))
      | false ↦ λ file g. refl
    ] refl e
  ] is
