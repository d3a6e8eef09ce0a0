-- The items of a catalog, and the records that they come from.
use Rattle.std.proofs.Common.{◌≡◌, ℕ, Bool, true, false, cond, ◌&&◌, eqb, [], ◌∷◌, map, refl, sym, ◌∙◌, ap, Option, Some, None}
use Rattle.std.specs.Ordering.{nat_cmp}
use Rattle.std.specs.Cmp.{unsigned_ties, nat_cmp_total}
use Rattle.std.specs.Option.{option_map}
use Rattle.std.specs.FinMap as fin
use Rattle.std.proofs.lemmas.Bool.{eqb-true, eq-eqb, ne_eqb, true≢false, and_parts}
use Rattle.hfs_fields.specs.Records.{is_dir, is_item, item_id, dir_record_of, file_record_of}
use Rattle.hfs_fields.specs.Members.{In}
use Rattle.hfs_fields.proofs.MemberLemmas.{found_in}
use Rattle.hfs_model.specs.declared.item.Item.{Item}
use Rattle.hfs_model.specs.Children.{is_folder_kind}
use Rattle.hfs_model.specs.Lawful.{Has}
use Rattle.hfs_catalog.specs.Records.{Record, Catalog, has_id, item_with, items_of, has_thread}
use Rattle.hfs_catalog.specs.Items.{Contents, folder_of, file_of, item_of, entry_of, items_in}
use Rattle.hfs_model.proofs.Facts.{same_some}

pub none_some : {A : Type 0} (x : A) → None ≡ Some x → ⊥
none_some x e = cc

pub with_id : (catalog : Catalog) (id : ℕ) (r : Record) → item_with catalog id ≡ Some r → In r catalog × (is_item r.1 ≡ true) × (item_id r.1 ≡ id)
with_id catalog id r is =
    let found = found_in (has_id id) catalog r is in
    let parts = and_parts (is_item r.1) (eqb (item_id r.1) id) found.1 in
    (found.0, parts.0, eqb-true (item_id r.1) id parts.1)

-- ---- the item of a record

module _ (contents : Contents) (catalog : Catalog) (r : Record) where
  abbrev choice : Bool → Item
  choice b = cond b (folder_of r.0 (dir_record_of r.1)) (file_of (has_thread catalog (file_record_of r.1).id) (contents (file_record_of r.1)) r.0 (file_record_of r.1))

  pub item_parent : (item_of contents catalog r).parent ≡ r.0.parent
  unfolding item_of folder_of file_of
  item_parent = elim (is_dir r.1) as (λ (b : Bool). (choice b).parent ≡ r.0.parent) [ true ↦ refl | false ↦ refl ]

  pub item_name : (item_of contents catalog r).name ≡ r.0.name
  unfolding item_of folder_of file_of
  item_name = elim (is_dir r.1) as (λ (b : Bool). (choice b).name ≡ r.0.name) [ true ↦ refl | false ↦ refl ]

  pub item_folder : is_dir r.1 ≡ true → is_folder_kind (item_of contents catalog r).kind ≡ true
  unfolding item_of folder_of file_of
  item_folder e = ap (λ (b : Bool). is_folder_kind (choice b).kind) e

-- ---- the items are the records'

module _ (contents : Contents) (whole : Catalog) where
  found : (catalog : Catalog) (id : ℕ) → fin.find nat_cmp id (map (entry_of contents whole) (items_of catalog)) ≡ option_map (item_of contents whole) (item_with catalog id)
  found [] id = refl
  found (r ∷ rest) id = elim (is_item r.1) as (λ (b : Bool). fin.find nat_cmp id (map (entry_of contents whole) (cond b (r ∷ items_of rest) (items_of rest))) ≡ option_map (item_of contents whole) (cond (b && eqb (item_id r.1) id) (Some r) (item_with rest id))) [
    | true ↦
        ap (λ (b : Bool). cond b (Some (item_of contents whole r)) (fin.find nat_cmp id (map (entry_of contents whole) (items_of rest)))) (sym (unsigned_ties id (item_id r.1)))
        ∙ ap (cond (eqb id (item_id r.1)) (Some (item_of contents whole r))) (found rest id)
        ∙ elim (eqb (item_id r.1) id) as (λ (b : Bool). eqb (item_id r.1) id ≡ b → cond (eqb id (item_id r.1)) (Some (item_of contents whole r)) (option_map (item_of contents whole) (item_with rest id)) ≡ option_map (item_of contents whole) (cond b (Some r) (item_with rest id))) [
          | true ↦ λ e. ap (λ (b : Bool). cond b (Some (item_of contents whole r)) (option_map (item_of contents whole) (item_with rest id))) (eq-eqb id (item_id r.1) (sym (eqb-true (item_id r.1) id e)))
          | false ↦ λ e. ap (λ (b : Bool). cond b (Some (item_of contents whole r)) (option_map (item_of contents whole) (item_with rest id))) (ne_eqb id (item_id r.1) (λ (same : id ≡ item_id r.1). true≢false (sym (eq-eqb (item_id r.1) id (sym same)) ∙ e)))
        ] refl
    | false ↦ found rest id
  ]

pub items_are_records : (contents : Contents) (catalog : Catalog) (id : ℕ) → fin.get (items_in contents catalog) id ≡ option_map (item_of contents catalog) (item_with catalog id)
unfolding items_in
items_are_records contents catalog id = fin.get-from_entries nat_cmp_total (map (entry_of contents catalog) (items_of catalog)) id ∙ found contents catalog catalog id

-- the record of an item
pub record HasRecord (contents : Contents) (catalog : Catalog) (id : ℕ) (i : Item) : Type 0 where
  pub of : Record
  pub found : item_with catalog id ≡ Some of
  pub there : In of catalog
  pub item : is_item of.1 ≡ true
  pub same : item_id of.1 ≡ id
  pub is : item_of contents catalog of ≡ i

module _ (contents : Contents) (catalog : Catalog) where
  pub has_item : (id : ℕ) (r : Record) → item_with catalog id ≡ Some r → Has (items_in contents catalog) id (item_of contents catalog r)
  has_item id r is = items_are_records contents catalog id ∙ ap (option_map (item_of contents catalog)) is

  from_option : (id : ℕ) (i : Item) (o : Option Record) → item_with catalog id ≡ o → option_map (item_of contents catalog) o ≡ Some i → HasRecord contents catalog id i
  from_option id i None e is = absurd (none_some i is)
  from_option id i (Some r) e is = let there = with_id catalog id r e in
      record { of = r; found = e; there = there.0; item = there.1; same = there.2; is = same_some (item_of contents catalog r) i is }

  pub has_record : (id : ℕ) (i : Item) → Has (items_in contents catalog) id i → HasRecord contents catalog id i
  has_record id i has = from_option id i (item_with catalog id) refl (sym (items_are_records contents catalog id) ∙ has)
