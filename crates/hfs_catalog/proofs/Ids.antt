-- The check of IDs.
use Rattle.std.proofs.Common.{◌≡◌, ℕ, Bool, true, false, cond, not, ◌&&◌, ◌||◌, List, [], ◌∷◌, length, refl, sym, ◌∙◌, Some, None}
use Rattle.std.specs.Prelude.{◌↔◌}
use Rattle.std.specs.Bool.{Decides}
use Rattle.std.specs.List.{find, list_any}
use Rattle.std.proofs.lemmas.Bool.{true≢false, and_parts, and_from}
use Rattle.std.proofs.lemmas.Bool.Decides.{Decides-not}
use Rattle.hfs_fields.specs.Records.{is_item, item_id}
use Rattle.hfs_fields.specs.Each.{Each}
use Rattle.hfs_fields.proofs.ElementLemmas.{each-mono}
use Rattle.hfs_fields.specs.First.{first_failing}
use Rattle.hfs_catalog.proofs.DistinctLemmas.{Differs, distinct_from_later, later_from_distinct}
use Rattle.hfs_catalog.specs.Records.{Record, Catalog, has_id}
use Rattle.hfs_catalog.specs.Sound.{HasRightId, AreIdsSound}
use Rattle.hfs_catalog.specs.Faults.{implies, is_id_right, is_id_new, is_item_id_right, id_fault}
use Rattle.hfs_fields.proofs.ScanLemmas.{all_decides, passes_from_none, none_from_passes, both_from_passes, passes_from_both, later_from_passes, passes_from_later}
use Rattle.hfs_fields.proofs.DecisionLemmas.{itself}
use Rattle.hfs_catalog.proofs.Decided.{Decides-implies, id_decides}
use Rattle.hfs_fields.proofs.TwoFaultLemmas.{neither, both_none}
use Rattle.hfs_catalog.proofs.Agreed.{holds, no_fault}
use Rattle.hfs_model.proofs.InOrder.{none_some}

-- ---- an ID is new where no record before has it

abbrev is_new : Catalog → Record → Bool
is_new before r = implies (is_item r.1) (is_id_new before r)

new_decides : (before : Catalog) (r : Record) → Decides (is_new before r) (Each (λ e. Differs e r) before)
unfolding is_id_new
new_decides before r =
    let d = Decides-implies (is_item r.1) _ _ (all_decides (λ e. not (has_id (item_id r.1) e)) (λ e. has_id (item_id r.1) e ≡ true → ⊥) (λ e. Decides-not _ (itself (has_id (item_id r.1) e))) before) in
    (λ e. inside before (d.0 e), λ h. d.1 (λ item. each-mono _ _ before (λ e other. other item) h))
  where
    inside : (es : Catalog) → (is_item r.1 ≡ true → Each (λ e. has_id (item_id r.1) e ≡ true → ⊥) es) → Each (λ e. Differs e r) es
    inside [] h = tt
    inside (e ∷ es) h = (λ item. (h item).0, inside es (λ item. (h item).1))

split : (a x y : Bool) (P : Type 0) → Decides x P → Decides (implies a (x && y)) ((implies a y ≡ true) × (a ≡ true → P))
split true x y P d = (
  λ e. let both = and_parts x y e in (both.1, λ _. d.0 both.0),
  λ h. and_from x y (d.1 (h.1 refl)) h.0,
)
split false x y P d = (λ e. (refl, λ t. absurd (true≢false (sym t))), λ h. refl)

split_id : (next : ℕ) (before : Catalog) (r : Record) → Decides (is_item_id_right next before r) ((is_new before r ≡ true) × (is_item r.1 ≡ true → HasRightId next r))
unfolding is_item_id_right
split_id next before r = split (is_item r.1) (is_id_right next r) (is_id_new before r) _ (id_decides next r)

-- ---- a record with an ID

pub second : (a b : Bool) → a ≡ false → (a || b) ≡ b
second true b e = absurd (true≢false e)
second false b e = refl

found : {X : Type 0} (p : X → Bool) (xs : List X) → list_any p xs ≡ true → (x : X) × (find p xs ≡ Some x)
found p [] e = absurd (true≢false (sym e))
found {X} p (x ∷ xs) e = elim (p x) as (λ (b : Bool). p x ≡ b → (y : X) × (cond b (Some x) (find p xs) ≡ Some y)) [
  | true ↦ λ is. (x, refl)
  | false ↦ λ is. found p xs (sym (second (p x) (list_any p xs) is) ∙ e)
] refl

pub any_from_found : {X : Type 0} (p : X → Bool) (xs : List X) (x : X) → find p xs ≡ Some x → list_any p xs ≡ true
any_from_found p [] x is = absurd (none_some x (sym is))
any_from_found p (y ∷ ys) x is = elim (p y) as (λ (b : Bool). cond b (Some y) (find p ys) ≡ Some x → (b || list_any p ys) ≡ true) [
  | true ↦ λ here. refl
  | false ↦ λ later. any_from_found p ys x later
] is

-- ---- the check

pub no_id_fault : (next : ℕ) (catalog : Catalog) → (id_fault next catalog ≡ None) ↔ AreIdsSound next catalog
unfolding id_fault
no_id_fault next catalog = (
  λ is.
      let parts = neither (first_failing (is_item_id_right next) [] catalog) _ is in
      let both = both_from_passes (is_item_id_right next) is_new _ (split_id next) [] catalog (passes_from_none (is_item_id_right next) [] catalog parts.0) in
      record {
        each = both.1;
        distinct = distinct_from_later catalog (later_from_passes is_new Differs new_decides [] catalog both.0).1;
        root = found (has_id 2) catalog (holds _ (length catalog) parts.1);
      },
  λ h.
      both_none _ _
      (none_from_passes (is_item_id_right next) [] catalog
      (passes_from_both (is_item_id_right next) is_new _ (split_id next) [] catalog
      (passes_from_later is_new Differs new_decides [] catalog tt (later_from_distinct catalog h.distinct)) h.each))
      (no_fault _ (length catalog) (any_from_found (has_id 2) catalog h.root.0 h.root.1)),
)
