-- Chains of parents are short.
use Rattle.std.proofs.Common.{◌≡◌, ⊎_elim, ℕ, zero, suc, ◌+◌, ◌<◌, ◌≤◌, Bool, true, false, cond, ◌&&◌, eqb, List, [], ◌∷◌, length, count_by, map, refl, sym, ◌∙◌, ap, arith, Option, Some, None}
use Rattle.std.specs.Prelude.{◌↔◌}
use Rattle.std.specs.Bool.{Decides, IsTrue}
use Rattle.std.specs.Option.{option_map, option_map_or}
use Rattle.std.proofs.lemmas.Bool.{eqb-true, or_cases, or_left, or_right, true≢false}
use Rattle.std.proofs.lemmas.List.{length-map}
use Rattle.std.proofs.lemmas.List.Sums.{sum_by-cons, length-filter, count_by-le-length}
use Rattle.hfs_fields.specs.Records.{is_item, item_id}
use Rattle.hfs_model.specs.Chains.{Leads}
use Rattle.hfs_model.proofs.ChainLemmas.{Ends, no_longer}
use Rattle.hfs_catalog.proofs.Lawful.{id_cons}
use Rattle.hfs_catalog.specs.Records.{Record, Catalog, item_with, items_of, item_ids}
use Rattle.hfs_catalog.specs.Parents.{parent_in, ReachesRoot, reaches_root}
use Rattle.hfs_catalog.proofs.Held.{none_some}

same_some : {A : Type 0} (o : Option A) (x y : A) → o ≡ Some x → o ≡ Some y → x ≡ y
same_some o x y e f = cc

-- ---- the IDs of a catalog

listed : (catalog : Catalog) (x : ℕ) (r : Record) → item_with catalog x ≡ Some r → 0 < count_by (λ (z : ℕ). eqb z x) (item_ids catalog)
listed [] x r is = absurd (none_some r is)
listed (s ∷ rest) x r is = elim (is_item s.1) as (λ (b : Bool). cond (b && eqb (item_id s.1) x) (Some s) (item_with rest x) ≡ Some r → 0 < count_by (λ (z : ℕ). eqb z x) (map (λ (q : Record). item_id q.1) (cond b (s ∷ items_of rest) (items_of rest)))) [
  | true ↦ λ found. elim (eqb (item_id s.1) x) as (λ (b : Bool). eqb (item_id s.1) x ≡ b → cond b (Some s) (item_with rest x) ≡ Some r → 0 < count_by (λ (z : ℕ). eqb z x) (item_id s.1 ∷ item_ids rest)) [
    | true ↦ λ e here.
        let one : ◌≡◌ {A = ℕ} (cond (eqb (item_id s.1) x) 1 0) 1 = ap (λ (b : Bool). cond b 1 0) e in
        omega (arith, id_cons x (item_id s.1) (item_ids rest), one)
    | false ↦ λ e later. omega (arith, id_cons x (item_id s.1) (item_ids rest), listed rest x r later)
  ] refl found
  | false ↦ λ later. listed rest x r later
] is

-- ---- the chain up to the first time that it comes to the root

module _ (catalog : Catalog) where
  below_root : ℕ → Option ℕ
  below_root id = cond (eqb id 2) None (parent_in catalog id)

  begins : (x y : ℕ) → below_root x ≡ Some y → 0 < count_by (λ (z : ℕ). eqb z x) (item_ids catalog)
  unfolding below_root
  begins x y is = elim (eqb x 2) as (λ (b : Bool). cond b None (parent_in catalog x) ≡ Some y → 0 < count_by (λ (z : ℕ). eqb z x) (item_ids catalog)) [
    | true ↦ λ none. absurd (none_some y none)
    | false ↦ λ some. elim (item_with catalog x) as (λ (o : Option Record). item_with catalog x ≡ o → option_map (λ (r : Record). r.0.parent) o ≡ Some y → 0 < count_by (λ (z : ℕ). eqb z x) (item_ids catalog)) [
      | None ↦ λ e none. absurd (none_some y none)
      | Some r ↦ λ e here. listed catalog x r e
    ] refl some
  ] is

  record Soon (id : ℕ) : Type 0 where
    steps : ℕ
    ends : Ends below_root steps id
    reaches : reaches_root catalog steps id ≡ true

  at_root : (id : ℕ) → eqb id 2 ≡ true → Soon id
  unfolding below_root
  at_root id e = record { steps = 0; ends = ap (λ (b : Bool). cond b None (parent_in catalog id)) e; reaches = e }

  one_up : (id z : ℕ) → eqb id 2 ≡ false → parent_in catalog id ≡ Some z → Soon z → Soon id
  unfolding below_root
  one_up id z other up rest = record {
    steps = suc rest.steps;
    ends = (z, ap (λ (b : Bool). cond b None (parent_in catalog id)) other ∙ up, rest.ends);
    reaches = or_right _ _ (ap (λ (o : Option ℕ). option_map_or (reaches_root catalog rest.steps) o false) up ∙ rest.reaches);
  }

  soon : (n id : ℕ) → Leads (parent_in catalog) n id 2 → Soon id
  soon zero id l = at_root id (ap (λ (k : ℕ). eqb k 2) l)
  soon (suc n) id l = elim (eqb id 2) as (λ (b : Bool). eqb id 2 ≡ b → Soon id) [
    | true ↦ λ e. at_root id e
    | false ↦ λ e. one_up id l.0 e l.1 (soon n l.0 l.2)
  ] refl

  further : (m k id : ℕ) → m ≤ k → reaches_root catalog m id ≡ true → reaches_root catalog k id ≡ true
  further zero zero id le e = e
  further zero (suc k) id le e = or_left _ _ e
  further (suc m) zero id le e = absurd (omega arith)
  further (suc m) (suc k) id le e = ⊎_elim
      (λ (root : eqb id 2 ≡ true). or_left _ _ root)
      (λ (more : option_map_or (reaches_root catalog m) (parent_in catalog id) false ≡ true). or_right _ _ (elim (parent_in catalog id) as (λ (o : Option ℕ). option_map_or (reaches_root catalog m) o false ≡ true → option_map_or (reaches_root catalog k) o false ≡ true) [
        | None ↦ λ none. none
        | Some z ↦ λ some. further m k z (omega arith) some
      ] more))
      (or_cases _ _ e)

  up : (k id : ℕ) → reaches_root catalog k id ≡ true → ReachesRoot catalog id
  up zero id e = (0, eqb-true id 2 e)
  up (suc k) id e = ⊎_elim
      (λ (root : eqb id 2 ≡ true). let here : ReachesRoot catalog id = (0, eqb-true id 2 root) in here)
      (λ (more : option_map_or (reaches_root catalog k) (parent_in catalog id) false ≡ true). elim (parent_in catalog id) as (λ (o : Option ℕ). parent_in catalog id ≡ o → option_map_or (reaches_root catalog k) o false ≡ true → ReachesRoot catalog id) [
        | None ↦ λ is none. absurd (true≢false (sym none))
        | Some z ↦ λ is some. let rest = up k z some in let here : ReachesRoot catalog id = (suc rest.0, (z, is, rest.1)) in here
      ] refl more)
      (or_cases _ _ e)

  pub reach_decides : (id : ℕ) → Decides (reaches_root catalog (length catalog) id) (ReachesRoot catalog id)
  reach_decides id = (
    λ (e : reaches_root catalog (length catalog) id ≡ true). up (length catalog) id e,
    λ (h : ReachesRoot catalog id).
        let chain = soon h.0 id h.1 in
        let short : chain.steps ≤ length (item_ids catalog) = no_longer below_root (item_ids catalog) begins chain.steps id chain.ends in
        further chain.steps (length catalog) id
        (omega (arith, short, length-map (items_of catalog) (λ (r : Record). item_id r.1), length-filter (λ (r : Record). is_item r.1) catalog, count_by-le-length (λ (r : Record). is_item r.1) catalog))
        chain.reaches,
  )

pub reaches_soon : (catalog : Catalog) (id : ℕ) → IsTrue (reaches_root catalog (length catalog) id) ↔ ReachesRoot catalog id
reaches_soon catalog id = reach_decides catalog id
