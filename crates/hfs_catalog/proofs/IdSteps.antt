-- The steps of the check of IDs.
use Rattle.std.proofs.Common.{◌≡◌, ℕ, ◌<◌, Bool, true, false, ◌&&◌, length, get_or, take, refl, sym, ◌∙◌, ap, Some, None}
use Rattle.std.specs.List.{list_any}
use Rattle.std.specs.Option.{is_some}
use Rattle.std.proofs.lemmas.Bool.{eq-eqb, and_from}
use Rattle.hfs_fields.specs.Records.{is_item, item_id}
use Rattle.hfs_catalog.specs.Records.{Record, Catalog, has_id}
use Rattle.hfs_catalog.specs.Indexes.{item_place, is_place}
use Rattle.hfs_catalog.specs.Faults.{implies, unless, is_id_right, is_id_new, is_item_id_right}
use Rattle.hfs_catalog.proofs.Indexed.{is_first, any_place}

-- the ID is new where the record is the first with it
pub id_is : (next : ℕ) (index catalog : Catalog) (i : ℕ) (r : Record) → index ≡ catalog → i < length catalog → r ≡ get_or catalog i r
    → is_item_id_right next (take i catalog) r ≡ implies (is_item r.1) (is_id_right next r && is_place (item_place index (item_id r.1)) i)
unfolding is_item_id_right is_id_new
id_is next index catalog i r same lt is =
    elim (is_item r.1) as (λ (b : Bool). is_item r.1 ≡ b → implies b (is_id_right next r && is_id_new (take i catalog) r) ≡ implies b (is_id_right next r && is_place (item_place catalog (item_id r.1)) i)) [
      | true ↦ λ e. ap (λ (b : Bool). is_id_right next r && b) (sym (is_first (has_id (item_id r.1)) catalog i r lt is (and_from _ _ e (eq-eqb (item_id r.1) (item_id r.1) refl))))
      | false ↦ λ e. refl
    ] refl
    ∙ ap (λ (c : Catalog). implies (is_item r.1) (is_id_right next r && is_place (item_place c (item_id r.1)) i)) (sym same)

-- what is said where no place is known, and where one is
pub no_root : (catalog : Catalog) (n : ℕ) → item_place catalog 2 ≡ None → unless (list_any (has_id 2) catalog) n ≡ Some n
no_root catalog n is = ap (λ (b : Bool). unless b n) (sym (any_place (has_id 2) 0 catalog) ∙ ap is_some is)

pub a_root : (catalog : Catalog) (n i : ℕ) → item_place catalog 2 ≡ Some i → unless (list_any (has_id 2) catalog) n ≡ None
a_root catalog n i is = ap (λ (b : Bool). unless b n) (sym (any_place (has_id 2) 0 catalog) ∙ ap is_some is)
