-- What holds an item is a folder, but for 1, which holds the root.
use native.Mathlib.Omega.{arith}
use Rattle.std.proofs.Common.{◌≡◌, ◌≢◌, ◌⊎◌, ⊎_elim, ℕ, ℤ, Bool, true, false, cond, List, eqb-true, refl, sym, ◌∙◌, ap, subst, Option, Some, None, Result, Ok, Err}
use Rattle.std.specs.Prelude.{is_some, not, ◌==◌}
use Rattle.std.specs.Option.{option_map, option_map_or, option_and_then, ok_or}
use Rattle.std.proofs.lemmas.Option.{none-some, same_Some}
use Rattle.std.proofs.lemmas.Bool.{true≢false, and_parts}
use Rattle.hfs_fields.specs.Order.{same_name}
use Rattle.hfs_fields.specs.Records.{is_dir, is_item, item_id}
use Rattle.hfs_model.specs.declared.codes.TheConstants.{NOT_FOUND, NOT_A_FOLDER}
use Rattle.hfs_catalog.specs.declared.item.CatalogItem.{CatalogItem}
use Rattle.hfs_catalog.specs.Records.{Record, Catalog, item_with, is_child_of}
use Rattle.hfs_catalog.specs.Sound.{IsSoundCatalog, IsRoot, IsGiven, HasPlace}
use Rattle.hfs_catalog.specs.Lookups.{catalog_item, child_named, is_child_named}
use Rattle.hfs_items.proofs.FolderLemmas.{HasId, found_with}
use Rattle.hfs_items.specs.Told.{only_folder, is_folder, folder_child}
use Rattle.hfs_fields.proofs.MemberLemmas.{each_in, found_in}

folder_with_id : (o : Option Record) → option_map_or (λ (r : Record). is_dir r.1) o false ≡ true → is_some (option_and_then only_folder o) ≡ true
folder_with_id None h = absurd (true≢false (sym h))
folder_with_id (Some r) h = ap (λ b. is_some (cond b (Some r) None)) h

module _ (next : ℕ) (catalog : Catalog) (sound : IsSoundCatalog next catalog) where
  under_one : (r : Record) → item_id r.1 ≡ 2 → IsRoot r ⊎ IsGiven next r → r.0.parent ≡ 1
  under_one r two ids = ⊎_elim (λ (root : IsRoot r). root.parent) (λ (given : IsGiven next r). absurd (omega (arith, two, given.least))) ids

  -- no item has the ID 1
  pub is_folder-one : is_folder catalog 1 ≡ false
  is_folder-one = elim (item_with catalog 1) as (λ (o : Option Record). item_with catalog 1 ≡ o → is_some (option_and_then only_folder o) ≡ false) [
    | None ↦ λ e. refl
    | Some r ↦ λ e.
        let with = found_with catalog 1 r e in
        absurd (⊎_elim (λ (root : IsRoot r). omega (arith, root.id, with.same)) (λ (given : IsGiven next r). omega (arith, given.least, with.same)) (each_in _ catalog r sound.ids.each with.there with.item))
  ] refl

  -- what has an item of some name is a folder
  pub is_folder-holder : (dir : ℕ) (name : List ℕ) (r : Record) → child_named catalog dir name ≡ Some r → dir ≢ 1 → is_folder catalog dir ≡ true
  is_folder-holder dir name r is other =
      let found = found_in (is_child_named dir name) catalog r is in
      let child = and_parts (is_child_of dir r) (same_name r.0.name name) found.1 in
      let both = and_parts (is_item r.1) (r.0.parent == dir) child.0 in
      let parent : r.0.parent ≡ dir = eqb-true r.0.parent dir both.1 in
      ⊎_elim
      (λ (root : item_id r.1 ≡ 2). absurd (other (sym parent ∙ under_one r root (each_in _ catalog r sound.ids.each found.0 both.0))))
      (λ (place : HasPlace catalog r). folder_with_id (item_with catalog dir) (subst (λ n. option_map_or (λ (x : Record). is_dir x.1) (item_with catalog n) false ≡ true) parent place.parent))
      (each_in _ catalog r sound.places.parents found.0 both.0)

  -- what the look-up found under 1 is the root
  pub folder_child-one : (dir : ℕ) (name : List ℕ) → dir ≡ 1 → Err NOT_A_FOLDER ≡ folder_child catalog dir name
  folder_child-one dir name is =
      let none : is_folder catalog dir ≡ false = ap (is_folder catalog) is ∙ is_folder-one in
      ap (λ (b : Bool). cond (not b) (Err NOT_A_FOLDER) (ok_or (option_map catalog_item (child_named catalog dir name)) NOT_FOUND)) (sym none)

  pub folder_child-found : (dir : ℕ) (name : List ℕ) (item : CatalogItem) → Some item ≡ option_map catalog_item (child_named catalog dir name) → dir ≢ 1 → Ok item ≡ folder_child catalog dir name
  folder_child-found dir name item is other =
      elim (child_named catalog dir name) as (λ (o : Option Record). child_named catalog dir name ≡ o → Some item ≡ option_map catalog_item o → Ok item ≡ cond (not (is_folder catalog dir)) (Err NOT_A_FOLDER) (ok_or (option_map catalog_item o) NOT_FOUND)) [
        | None ↦ λ e none. absurd (none-some item (sym none))
        | Some r ↦ λ e some.
            let folder = is_folder-holder dir name r e other in
            ap (λ (i : CatalogItem). Ok i) (same_Some item (catalog_item r) some) ∙ ap (λ (b : Bool). cond (not b) (Err NOT_A_FOLDER) (Ok (catalog_item r))) (sym folder)
      ] refl is
