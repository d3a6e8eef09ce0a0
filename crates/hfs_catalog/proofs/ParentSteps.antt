-- The steps of the check of parents.
use Rattle.std.proofs.Common.{◌≡◌, ⊎_elim, ℕ, zero, suc, ◌+◌, ◌-◌, ◌<◌, Bool, true, false, ◌&&◌, ◌||◌, nat_eq, eqb, List, length, sym, ◌∙◌, ap, subst, arith, Option, Some}
use Rattle.std.specs.Option.{option_map, option_map_or}
use Rattle.std.proofs.lemmas.Bool.{eqb-true, eq-eqb, ne_eqb, or_left, or_cases, true≢false}
use Rattle.hfs_fields.specs.Records.{is_item, item_id}
use Rattle.hfs_catalog.specs.Records.{Record, Catalog, item_with, is_folder_id}
use Rattle.hfs_catalog.specs.Parents.{parent_in, ReachesRoot, reaches_root}
use Rattle.hfs_catalog.specs.Indexes.{has_number, only_if, AreRooted}
use Rattle.hfs_catalog.specs.Faults.{implies, is_parent_right}
use Rattle.hfs_catalog.proofs.Reach.{reach_decides}
use Rattle.hfs_catalog.proofs.Held.{none_some}
use Rattle.hfs_model.proofs.Facts.{same_some}
use Rattle.hfs_catalog.proofs.Ids.{second}

pub not_root : (id : ℕ) (b : Bool) → (eqb id 2 || b) ≡ false → id ≡ 2 → ⊥
not_root id b e is = true≢false (sym (or_left _ b (eq-eqb id 2 is)) ∙ e)

module _ (catalog : Catalog) where
  pub reached : (rooted : List ℕ) (id : ℕ) → AreRooted rooted catalog → (eqb id 2 || has_number rooted id) ≡ true → ReachesRoot catalog id
  reached rooted id known e = ⊎_elim
      (λ (root : eqb id 2 ≡ true). let here : ReachesRoot catalog id = (0, eqb-true id 2 root) in here)
      (λ (has : has_number rooted id ≡ true). known id has)
      (or_cases (eqb id 2) (has_number rooted id) e)

  pub known_reaches : (id : ℕ) → ReachesRoot catalog id → reaches_root catalog (length catalog) id ≡ true
  known_reaches id h = (reach_decides catalog id).1 h

  pub reaches_known : (id : ℕ) → reaches_root catalog (length catalog) id ≡ true → ReachesRoot catalog id
  reaches_known id e = (reach_decides catalog id).0 e

  pub parent_is : (id : ℕ) (r : Record) → Some r ≡ item_with catalog id → parent_in catalog id ≡ Some r.0.parent
  parent_is id r is = ap (option_map (λ (q : Record). q.0.parent)) (sym is)

  -- one step fewer is left from the parent on
  one_up : (k id p : ℕ) → (id ≡ 2 → ⊥) → parent_in catalog id ≡ Some p → reaches_root catalog (suc k) id ≡ reaches_root catalog k p
  one_up k id p other up = second (eqb id 2) _ (ne_eqb id 2 other) ∙ ap (λ (o : Option ℕ). option_map_or (reaches_root catalog k) o false) up

  pub step_up : (n i id p : ℕ) → i < n → (id ≡ 2 → ⊥) → parent_in catalog id ≡ Some p → reaches_root catalog (n - i) id ≡ reaches_root catalog (n - (i + 1)) p
  step_up n i id p lt other up =
      let left : n - i ≡ suc (n - (i + 1)) = omega arith in
      ap (λ (k : ℕ). reaches_root catalog k id) left ∙ one_up (n - (i + 1)) id p other up

  pub reaches_up : (id p : ℕ) → parent_in catalog id ≡ Some p → ReachesRoot catalog p → ReachesRoot catalog id
  reaches_up id p up h = let here : ReachesRoot catalog id = (suc h.0, (p, up, h.1)) in here

  pub parent_reaches : (id p : ℕ) → (id ≡ 2 → ⊥) → parent_in catalog id ≡ Some p → ReachesRoot catalog id → ReachesRoot catalog p
  parent_reaches id p other up (zero, l) = absurd (other l)
  parent_reaches id p other up (suc n, l) = subst (λ (z : ℕ). ReachesRoot catalog z) (same_some l.0 p (sym l.1 ∙ up)) (n, l.2)

  -- one ID more whose chain reaches the root
  pub rooted_more : (old new : List ℕ) (id : ℕ) → AreRooted old catalog → ReachesRoot catalog id → ((k : ℕ) → has_number new k ≡ (has_number old k || nat_eq id k)) → AreRooted new catalog
  rooted_more old new id known h is k e = ⊎_elim
      (λ (was : has_number old k ≡ true). known k was)
      (λ (same : nat_eq id k ≡ true). subst (λ (z : ℕ). ReachesRoot catalog z) (eqb-true id k same) h)
      (or_cases (has_number old k) (nat_eq id k) (sym (is k) ∙ e))

-- what is tested of an item
abbrev pub is_rightly_placed : Catalog → Record → ℕ → Bool
is_rightly_placed catalog r id = eqb id 2 || (is_folder_id catalog r.0.parent && reaches_root catalog (length catalog) id)

pub right_is : (catalog : Catalog) (r : Record) (id : ℕ) → Some id ≡ only_if (is_item r.1) (item_id r.1) → implies (is_item r.1) (is_parent_right catalog r) ≡ is_rightly_placed catalog r id
unfolding is_parent_right
right_is catalog r id is = elim (is_item r.1) as (λ (b : Bool). Some id ≡ only_if b (item_id r.1) → implies b (is_rightly_placed catalog r (item_id r.1)) ≡ is_rightly_placed catalog r id) [
  | true ↦ λ e. ap (is_rightly_placed catalog r) (sym (same_some id (item_id r.1) e))
  | false ↦ λ e. absurd (none_some id (sym e))
] is

module _ (catalog : Catalog) (r : Record) (id : ℕ) (is : Some id ≡ only_if (is_item r.1) (item_id r.1)) where
  pub right_at_root : id ≡ 2 → implies (is_item r.1) (is_parent_right catalog r) ≡ true
  right_at_root e = right_is catalog r id is ∙ or_left _ _ (eq-eqb id 2 e)

  pub right_elsewhere : (id ≡ 2 → ⊥) → implies (is_item r.1) (is_parent_right catalog r) ≡ (is_folder_id catalog r.0.parent && reaches_root catalog (length catalog) id)
  right_elsewhere other = right_is catalog r id is ∙ second _ _ (ne_eqb id 2 other)
