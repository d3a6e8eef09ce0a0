-- The way up from a folder.
use Rattle.std.proofs.Common.{◌≡◌, ◌⊎◌, inl, inr, ⊎_elim, ℕ, zero, suc, Bool, true, false, cond, ◌||◌, eqb, refl, sym, ◌∙◌, ap, arith, Option, Some, None}
use Rattle.std.specs.Prelude.{IsTrue}
use Rattle.std.specs.Option.{option_map, option_map_or, option_and_then}
use Rattle.std.proofs.lemmas.Bool.{eq-eqb, ne_eqb, true≢false}
use Rattle.std.proofs.lemmas.Option.{none-some, same_Some}
use Rattle.hfs_fields.specs.declared.key.CatKey.{CatKey}
use Rattle.hfs_fields.specs.Records.{is_dir, item_id}
use Rattle.hfs_fields.proofs.MemberLemmas.{each_in}
use Rattle.hfs_catalog.specs.declared.item.CatalogItem.{CatalogItem}
use Rattle.hfs_catalog.specs.Lookups.{catalog_item}
use Rattle.hfs_catalog.specs.Records.{Record, Catalog, item_with, is_folder_id}
use Rattle.hfs_catalog.specs.Sound.{IsSoundCatalog, IsRoot, IsGiven, HasPlace}
use Rattle.hfs_record_edits.specs.Changes.{IsFolderWith}
use Rattle.hfs_record_edits.proofs.OffspringLaws.{lies_by_parents}
use Rattle.hfs_items.proofs.FolderLemmas.{found_with}
use Rattle.hfs_items.specs.Told.{only_folder, folder_with}
use Rattle.hfs_call_edits.specs.ChoosingMoving.{up_by_folders}
use Rattle.hfs_call_edits.proofs.RenameChoice.{key_is}

-- ---- one step

module _ (catalog : Catalog) (up : ℕ) where
  abbrev above : ℕ → Option Record → Bool
  above n o = option_map_or (λ (r : Record). up_by_folders catalog n r.0.parent up) o false

  pub reached : (n id : ℕ) → id ≡ up → up_by_folders catalog n id up ≡ true
  reached zero id e = eq-eqb id up e
  reached (suc n) id e = ap (λ b. b || above n (folder_with catalog id)) (eq-eqb id up e)

  pub no_more : (n id : ℕ) → n ≡ 0 → (id ≡ up → ⊥) → up_by_folders catalog n id up ≡ false
  no_more n id none other = ap (λ k. up_by_folders catalog k id up) none ∙ ne_eqb id up other

  none_found : (o : Option Record) → None ≡ option_map catalog_item o → o ≡ None
  none_found None e = refl
  none_found (Some r) e = absurd (none-some (catalog_item r) e)

  pub no_folder : (n id : ℕ) → (id ≡ up → ⊥) → None ≡ option_map catalog_item (folder_with catalog id) → up_by_folders catalog n id up ≡ false
  no_folder zero id other none = ne_eqb id up other
  no_folder (suc n) id other none = λ i. ne_eqb id up other i || above n (none_found (folder_with catalog id) none i)

  pub one_up : (n id : ℕ) (item : CatalogItem) → (id ≡ up → ⊥) → Some item ≡ option_map catalog_item (folder_with catalog id) → up_by_folders catalog (suc n) id up ≡ up_by_folders catalog n item.key.parent up
  one_up n id item other is = elim (folder_with catalog id) as (λ (o : Option Record). Some item ≡ option_map catalog_item o → (eqb id up || above n o) ≡ up_by_folders catalog n item.key.parent up) [
    | None ↦ λ e. absurd (none-some item (sym e))
    | Some r ↦ λ e. ap (λ b. b || up_by_folders catalog n r.0.parent up) (ne_eqb id up other) ∙ ap (λ (k : CatKey). up_by_folders catalog n k.parent up) (sym (key_is item r (same_Some item (catalog_item r) e)))
  ] is

-- ---- the chain of parents from a folder on has folders alone

module _ (next : ℕ) (catalog : Catalog) (sound : IsSoundCatalog next catalog) where
  -- the ID of a folder, or of nothing
  abbrev IsFolderOrNone : ℕ → Type 0
  IsFolderOrNone id = ((r : Record) × IsFolderWith catalog id r) ⊎ (item_with catalog id ≡ None)

  -- no item has the ID 1
  none_has_one : (o : Option Record) → item_with catalog 1 ≡ o → item_with catalog 1 ≡ None
  none_has_one None e = e
  none_has_one (Some r) e =
      let found = found_with catalog 1 r e in
      absurd (⊎_elim (λ (root : IsRoot r). omega (arith, root.id, found.same)) (λ (given : IsGiven next r). omega (arith, given.least, found.same)) (each_in _ catalog r sound.ids.each found.there found.item))

  folder_of : (id : ℕ) → IsTrue (is_folder_id catalog id) → (r : Record) × IsFolderWith catalog id r
  folder_of id is = elim (item_with catalog id) as (λ (o : Option Record). item_with catalog id ≡ o → option_map_or (λ (r : Record). is_dir r.1) o false ≡ true → (r : Record) × IsFolderWith catalog id r) [
    | None ↦ λ e f. absurd (true≢false (sym f))
    | Some r ↦ λ e f. (r, record { was = e; folder = f })
  ] refl is

  parent_of : (id : ℕ) (r : Record) → IsFolderWith catalog id r → IsFolderOrNone r.0.parent
  parent_of id r f =
      let found = found_with catalog id r f.was in
      ⊎_elim
      (λ (two : item_id r.1 ≡ 2). inr (⊎_elim
      (λ (root : IsRoot r). ap (item_with catalog) root.parent ∙ none_has_one (item_with catalog 1) refl)
      (λ (given : IsGiven next r). absurd (omega (arith, given.least, two)))
      (each_in _ catalog r sound.ids.each found.there found.item)))
      (λ (place : HasPlace catalog r). inl (folder_of r.0.parent place.parent))
      (each_in _ catalog r sound.places.parents found.there found.item)

  pub same_way : (n id up : ℕ) → IsFolderOrNone id → lies_by_parents catalog n id up ≡ up_by_folders catalog n id up
  same_way zero id up is = refl
  same_way (suc n) id up (inl f) =
      ap (λ (o : Option Record). eqb id up || option_map_or (λ (p : ℕ). lies_by_parents catalog n p up) (option_map (λ (r : Record). r.0.parent) o) false) f.1.was
      ∙ ap (λ (b : Bool). eqb id up || b) (same_way n f.0.0.parent up (parent_of id f.0 f.1))
      ∙ sym (ap (λ (o : Option Record). eqb id up || option_map_or (λ (r : Record). up_by_folders catalog n r.0.parent up) (option_and_then only_folder o) false) f.1.was
      ∙ ap (λ (b : Bool). eqb id up || option_map_or (λ (r : Record). up_by_folders catalog n r.0.parent up) (cond b (Some f.0) None) false) f.1.folder)
  same_way (suc n) id up (inr none) =
      ap (λ (o : Option Record). eqb id up || option_map_or (λ (p : ℕ). lies_by_parents catalog n p up) (option_map (λ (r : Record). r.0.parent) o) false) none
      ∙ sym (ap (λ (o : Option Record). eqb id up || option_map_or (λ (r : Record). up_by_folders catalog n r.0.parent up) (option_and_then only_folder o) false) none)
