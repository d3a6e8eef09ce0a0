-- The folder of an ID, as it was looked up.
use Rattle.std.proofs.Common.{◌≡◌, ℕ, Bool, true, false, cond, refl, sym, ◌∙◌, ap, Option, Some, None}
use Rattle.std.specs.Prelude.{is_some}
use Rattle.std.specs.Option.{option_map, option_and_then}
use Rattle.std.proofs.lemmas.Option.{none-some, same_Some}
use Rattle.hfs_fields.specs.Records.{is_dir, dir_record_of, file_record_of}
use Rattle.hfs_fields.specs.declared.dir_record.DirRecord.{DirRecord}
use Rattle.hfs_fields.specs.declared.file_record.FileRecord.{FileRecord}
use Rattle.hfs_catalog.specs.declared.item.ItemRecord.TheVariants.{Folder, File}
use Rattle.hfs_catalog.specs.declared.item.CatalogItem.{CatalogItem}
use Rattle.hfs_catalog.specs.Records.{Record, Catalog, item_with}
use Rattle.hfs_catalog.specs.Lookups.{catalog_item}
use Rattle.hfs_items.proofs.FolderLemmas.{folder_not_file}
use Rattle.hfs_items.proofs.FoundLemmas.{is_some-option_map}
use Rattle.hfs_items.specs.Told.{only_folder, folder_with, is_folder}
use Rattle.hfs_call_patches.specs.Deleting.{IsParent}
use Rattle.hfs_call_edits.proofs.FolderPlaces.{same_folder}

-- nothing was found
pub no_parent : (catalog : Catalog) (dir : ℕ) → None ≡ option_map catalog_item (folder_with catalog dir) → is_folder catalog dir ≡ false
no_parent catalog dir is = sym (is_some-option_map catalog_item (folder_with catalog dir)) ∙ ap is_some (sym is)

module _ (catalog : Catalog) (dir : ℕ) (item : CatalogItem) (is : Some item ≡ option_map catalog_item (folder_with catalog dir)) where
  body_of : (r : Record) → is_dir r.1 ≡ true → catalog_item r ≡ item → Folder (dir_record_of r.1) ≡ item.body
  unfolding catalog_item
  body_of r folder same = sym (ap (λ (b : Bool). cond b (Folder (dir_record_of r.1)) (File (file_record_of r.1))) folder) ∙ ap (λ (i : CatalogItem). i.body) same

  key_of : (r : Record) → catalog_item r ≡ item → r.0 ≡ item.key
  unfolding catalog_item
  key_of r same = ap (λ (i : CatalogItem). i.key) same

  -- it is a folder
  record Found : Type 0 where
    of : Record
    was : item_with catalog dir ≡ Some of
    folder : is_dir of.1 ≡ true
    same : catalog_item of ≡ item

  by_kind : (r : Record) → item_with catalog dir ≡ Some r → (b : Bool) → is_dir r.1 ≡ b → Some item ≡ option_map catalog_item (cond b (Some r) None) → Found
  by_kind r was true folder e = record { of = r; was = was; folder = folder; same = same_Some (catalog_item r) item (sym e) }
  by_kind r was false folder e = absurd (none-some item (sym e))

  by_record : (o : Option Record) → item_with catalog dir ≡ o → Some item ≡ option_map catalog_item (option_and_then only_folder o) → Found
  by_record None was e = absurd (none-some item (sym e))
  by_record (Some r) was e = by_kind r was (is_dir r.1) refl e

  found : Found
  found = by_record (item_with catalog dir) refl is

  pub parent_found : (folder : DirRecord) → item.body ≡ Folder folder → IsParent catalog dir item.key folder.valence
  parent_found folder body = record {
    of = found.of;
    is = record { was = found.was; folder = found.folder };
    own_key = key_of found.of found.same;
    own_valence = ap (λ (d : DirRecord). d.valence) (same_folder (dir_record_of found.of.1) folder (body_of found.of found.folder found.same ∙ body));
  }

  pub no_file_parent : (file : FileRecord) → item.body ≡ File file → ⊥
  no_file_parent file body = folder_not_file (dir_record_of found.of.1) file (body_of found.of found.folder found.same ∙ body)
