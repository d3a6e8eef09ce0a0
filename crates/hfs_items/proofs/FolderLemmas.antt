-- The folder of an ID.
use Rattle.std.proofs.Common.{◌≡◌, ℕ, Bool, true, false, cond, eqb, eqb-true, refl, sym, ◌∙◌, ap, Option, Some, None}
use Rattle.std.specs.Prelude.{is_some, not}
use Rattle.std.specs.Option.{option_map, option_and_then}
use Rattle.std.proofs.lemmas.Bool.{true≢false, and_parts}
use Rattle.hfs_fields.specs.Records.{is_dir, is_item, item_id, dir_record_of, file_record_of, thread_record_of}
use Rattle.hfs_catalog.specs.declared.item.ItemRecord.TheVariants.{Folder, File}
use Rattle.hfs_catalog.specs.declared.item.CatalogItem.{CatalogItem}
use Rattle.hfs_fields.specs.declared.dir_record.DirRecord.{DirRecord}
use Rattle.hfs_fields.specs.declared.file_record.FileRecord.{FileRecord}
use Rattle.hfs_catalog.specs.Records.{Record, Catalog, has_id, item_with, has_thread, is_thread_of}
use Rattle.hfs_catalog.specs.Sound.{IsSoundCatalog}
use Rattle.hfs_catalog.specs.Lookups.{catalog_item, thread_of, item_named}
use Rattle.hfs_items.specs.Told.{only_folder, folder_with, is_folder}
use Rattle.hfs_fields.specs.declared.thread_record.ThreadRecord.{ThreadRecord}
use Rattle.hfs_catalog.proofs.Found.{by_its_thread}
use Rattle.hfs_fields.specs.Members.{In}
use Rattle.hfs_fields.proofs.MemberLemmas.{each_in, found_in}
use Rattle.std.proofs.lemmas.Option.{none-some, same_Some}
use Rattle.hfs_items.proofs.FoundLemmas.{is_some-find, is_some-option_map, none-option_map}

-- the record of an ID is in the catalog, an item's, and has the ID
pub record HasId (catalog : Catalog) (id : ℕ) (r : Record) : Type 0 where
  pub there : In r catalog
  pub item : is_item r.1 ≡ true
  pub same : item_id r.1 ≡ id

pub found_with : (catalog : Catalog) (id : ℕ) (r : Record) → item_with catalog id ≡ Some r → HasId catalog id r
found_with catalog id r is =
    let found = found_in (has_id id) catalog r is in
    let parts = and_parts (is_item r.1) (eqb (item_id r.1) id) found.1 in
    record { there = found.0; item = parts.0; same = eqb-true (item_id r.1) id parts.1 }

-- what has no thread is no folder
pub unthreaded : (next : ℕ) (catalog : Catalog) (id : ℕ) → IsSoundCatalog next catalog → option_map (λ (r : Record). thread_record_of r.1) (thread_of catalog id) ≡ None → folder_with catalog id ≡ None
unthreaded next catalog id sound none = elim (item_with catalog id) as (λ (o : Option Record). item_with catalog id ≡ o → option_and_then only_folder o ≡ None) [
  | None ↦ λ e. refl
  | Some r ↦ λ e. elim (is_dir r.1) as (λ (b : Bool). is_dir r.1 ≡ b → cond b (Some r) None ≡ None) [
    | true ↦ λ folder.
        let with = found_with catalog id r e in
        let has : has_thread catalog (item_id r.1) ≡ true = each_in _ catalog r sound.places.threaded with.there folder in
        let hasn't : has_thread catalog id ≡ false = sym (is_some-find (is_thread_of id) catalog) ∙ ap is_some (none-option_map _ (thread_of catalog id) none) in
        absurd (true≢false (sym has ∙ ap (has_thread catalog) with.same ∙ hasn't))
    | false ↦ λ file. refl
  ] refl
] refl

pub folder_not_file : (d : DirRecord) (f : FileRecord) → Folder d ≡ File f → ⊥
folder_not_file d f e = cc

-- the item of an ID is the folder of it, where it is a folder's
pub item_is_folder : (catalog : Catalog) (id : ℕ) (item : CatalogItem) (d : DirRecord) → Some item ≡ option_map catalog_item (item_with catalog id) → item.body ≡ Folder d → Some item ≡ option_map catalog_item (folder_with catalog id)
unfolding catalog_item
item_is_folder catalog id item d is body = elim (item_with catalog id) as (λ (o : Option Record). option_map catalog_item o ≡ Some item → Some item ≡ option_map catalog_item (option_and_then only_folder o)) [
  | None ↦ λ e. absurd (none-some item e)
  | Some r ↦ λ e.
      let same = same_Some (catalog_item r) item e in
      elim (is_dir r.1) as (λ (b : Bool). cond b (Folder (dir_record_of r.1)) (File (file_record_of r.1)) ≡ Folder d → Some item ≡ option_map catalog_item (cond b (Some r) None)) [
        | true ↦ λ e'. sym e
        | false ↦ λ e'. absurd (folder_not_file d _ (sym e'))
      ] (ap (λ (i : CatalogItem). i.body) same ∙ body)
] (sym is)

-- there is no folder of an ID whose item is a file
pub item_is_file : (catalog : Catalog) (id : ℕ) (item : CatalogItem) (f : FileRecord) → Some item ≡ option_map catalog_item (item_with catalog id) → item.body ≡ File f → None ≡ option_map catalog_item (folder_with catalog id)
unfolding catalog_item
item_is_file catalog id item f is body = elim (item_with catalog id) as (λ (o : Option Record). option_map catalog_item o ≡ Some item → None ≡ option_map catalog_item (option_and_then only_folder o)) [
  | None ↦ λ e. refl
  | Some r ↦ λ e.
      let same = same_Some (catalog_item r) item e in
      elim (is_dir r.1) as (λ (b : Bool). cond b (Folder (dir_record_of r.1)) (File (file_record_of r.1)) ≡ File f → None ≡ option_map catalog_item (cond b (Some r) None)) [
        | true ↦ λ e'. absurd (folder_not_file _ f e')
        | false ↦ λ e'. refl
      ] (ap (λ (i : CatalogItem). i.body) same ∙ body)
] (sym is)

-- the folder of an ID was looked up, and it isn't so that there is none
pub folder_there : (catalog : Catalog) (id : ℕ) (found : Option CatalogItem) (none : Bool) → found ≡ option_map catalog_item (folder_with catalog id) → is_some found ≡ not none → none ≡ false → is_folder catalog id ≡ true
folder_there catalog id found none is some there = sym (is_some-option_map catalog_item (folder_with catalog id)) ∙ ap is_some (sym is) ∙ some ∙ ap not there

-- what was found by the thread of an ID is its item
pub item_by_thread : (next : ℕ) (catalog : Catalog) (id : ℕ) (t : ThreadRecord) (found : Option CatalogItem) → IsSoundCatalog next catalog
    → option_map (λ (r : Record). thread_record_of r.1) (thread_of catalog id) ≡ Some t → found ≡ item_named catalog t.parent t.name
    → found ≡ option_map catalog_item (item_with catalog id)
item_by_thread next catalog id t found sound is named =
    named ∙ ap (option_map catalog_item) (by_its_thread catalog id t sound.places sound.ids.distinct is)

-- there is no folder of an ID that has no item
pub no_item : (catalog : Catalog) (id : ℕ) (found : Option CatalogItem) → found ≡ None → found ≡ option_map catalog_item (item_with catalog id)
    → None ≡ option_map catalog_item (folder_with catalog id)
no_item catalog id found none is = elim (item_with catalog id) as (λ (o : Option Record). option_map catalog_item o ≡ None → None ≡ option_map catalog_item (option_and_then only_folder o)) [
  | None ↦ λ e. refl
  | Some r ↦ λ e. absurd (none-some (catalog_item r) (sym e))
] (sym is ∙ none)
