-- Parents of a map's items, and chains of parents of a lawful one.
use Rattle.std.proofs.Common.{◌≡◌, ⊎_elim, ℕ, zero, suc, ◌+◌, ◌<◌, ◌≤◌, Bool, true, false, cond, ◌||◌, eqb, List, [], ◌∷◌, length, count_by, map, refl, sym, ◌∙◌, ap, subst, arith, Option, Some, None}
use Rattle.std.specs.Ordering.{nat_cmp}
use Rattle.std.specs.Cmp.{unsigned_ties}
use Rattle.std.specs.Option.{option_map, option_map_or}
use Rattle.std.specs.FinMap as fin
use Rattle.std.proofs.lemmas.Bool.{cases_eq, eqb-true, eq-eqb, ne_eqb}
use Rattle.std.proofs.lemmas.List.{length-map}
use Rattle.std.proofs.lemmas.List.Sums.{sum_by-cons}
use Rattle.hfs_model.specs.declared.item.Item.{Item}
use Rattle.hfs_model.specs.Volume.{Items, Entry}
use Rattle.hfs_model.specs.Children.{entry_at, has_id}
use Rattle.hfs_model.specs.Chains.{Leads}
use Rattle.hfs_model.proofs.ChainLemmas.{Ends, from_above, before_end, no_longer}
use Rattle.hfs_model.specs.Lawful.{Has, AreLawful, LiesIn, parent_of}
use Rattle.hfs_model.specs.Choices.{lies_in}
use Rattle.hfs_model.proofs.Facts.{none_is_some, same_some, true_false, has_entry, no_entry}

pub has_parent : (m : Items) (q : ℕ) (i : Item) → Has m q i → parent_of m q ≡ Some i.parent
has_parent m q i has = ap (option_map (λ (j : Item). j.parent)) has

pub parent_has : (m : Items) (q p : ℕ) → parent_of m q ≡ Some p → (i : Item) × Has m q i × (i.parent ≡ p)
parent_has m q p is = elim (fin.get m q) as (λ (o : Option Item). fin.get m q ≡ o → option_map (λ (j : Item). j.parent) o ≡ Some p → (i : Item) × Has m q i × (i.parent ≡ p)) [
  | None ↦ λ e none. absurd (none_is_some None p refl none)
  | Some i ↦ λ e some. (i, e, same_some i.parent p some)
] refl is

pub no_item : (m : Items) (next : ℕ) (h : AreLawful m next) (i : Item) → Has m 1 i → ⊥
no_item m next h i has = ⊎_elim (λ (e : 1 ≡ 2). omega arith) (λ ids. omega (arith, ids.0)) (h.ids 1 i has)

top_is_none : (m : Items) (next : ℕ) (h : AreLawful m next) → parent_of m 1 ≡ None
top_is_none m next h = elim (fin.get m 1) as (λ (o : Option Item). fin.get m 1 ≡ o → option_map (λ (j : Item). j.parent) o ≡ None) [
  | None ↦ λ e. refl
  | Some i ↦ λ e. absurd (no_item m next h i e)
] refl

-- above the root there is one step, to 1
root_ends : (m : Items) (next : ℕ) (h : AreLawful m next) → Ends (parent_of m) 1 2
root_ends m next h = (1, has_parent m 2 h.root.0 h.root.1 ∙ ap Some h.root.2, top_is_none m next h)

-- ---- the items' IDs

abbrev ids : Items → List ℕ
ids m = map (λ (e : Entry). e.0) (fin.entries m)

listed : (es : List Entry) (q : ℕ) (i : Item) → fin.find nat_cmp q es ≡ Some i → 0 < count_by (λ (z : ℕ). eqb z q) (map (λ (e : Entry). e.0) es)
listed [] q i has = absurd (none_is_some None i refl has)
listed (f ∷ fs) q i has = ⊎_elim
    (λ (same : f.0 ≡ q).
    let one : ◌≡◌ {A = ℕ} (cond (eqb f.0 q) 1 0) 1 = ap (λ (b : Bool). cond b 1 0) (eq-eqb f.0 q same) in
    omega (arith, cons f.0 (map (λ (e : Entry). e.0) fs), one))
    (λ (other : f.0 ≡ q → ⊥).
    omega (arith, cons f.0 (map (λ (e : Entry). e.0) fs), listed fs q i (sym (ap (λ b. cond b (Some f.1) (fin.find nat_cmp q fs)) (sym (unsigned_ties q f.0) ∙ ne_eqb q f.0 (λ (same : q ≡ f.0). other (sym same)))) ∙ has)))
    (cases_eq f.0 q)
  where
    cons : (x : ℕ) (xs : List ℕ) → count_by (λ (z : ℕ). eqb z q) (x ∷ xs) ≡ cond (eqb x q) 1 0 + count_by (λ (z : ℕ). eqb z q) xs
    cons x xs = sum_by-cons (λ (z : ℕ). cond (eqb z q) 1 0) x xs

begins : (m : Items) (q p : ℕ) → parent_of m q ≡ Some p → 0 < count_by (λ (z : ℕ). eqb z q) (ids m)
begins m q p is = let has = parent_has m q p is in listed (fin.entries m) q has.0 (sym (fin.get-entries m q) ∙ has.1)

-- a chain of parents that ends has no more items than the map
pub chain_within : (m : Items) (n q : ℕ) → Ends (parent_of m) n q → n ≤ length (fin.entries m)
chain_within m n q e = subst (λ (k : ℕ). n ≤ k) (length-map (fin.entries m) (λ (x : Entry). x.0)) (no_longer (parent_of m) (ids m) (begins m) n q e)

module _ (m : Items) (next : ℕ) (h : AreLawful m next) where
  -- a chain of parents that reaches the root does so within the number of items
  pub root_within : (n q : ℕ) → Leads (parent_of m) n q 2 → n < length (fin.entries m)
  root_within n q l =
      let whole = from_above (parent_of m) n 1 q 2 l (root_ends m next h) in
      omega (arith, whole.1, chain_within m whole.0 q whole.2)

  -- an item that stands so many parents up does so within the number of items
  pub steps_within : (n q up : ℕ) → Leads (parent_of m) n q up → n ≤ length (fin.entries m)
  steps_within zero q up l = omega arith
  steps_within (suc n) q up l =
      let has = parent_has m q l.0 l.1 in
      let chain = h.reach q has.0 has.1 in
      let whole = from_above (parent_of m) chain.0 1 q 2 chain.1 (root_ends m next h) in
      let rest = before_end (parent_of m) (suc n) whole.0 q up l whole.2 in
      omega (arith, rest.1, chain_within m whole.0 q whole.2)

-- ---- the bounded search is the relation

entry_parent : (m : Items) (q : ℕ) (e : Entry) → entry_at (fin.entries m) q ≡ Some e → parent_of m q ≡ Some e.1.parent
entry_parent m q e is = let has = has_entry m q e is in has_parent m q e.1 (ap (fin.get m) (sym has.0) ∙ has.1)

entry_none : (m : Items) (q p : ℕ) → entry_at (fin.entries m) q ≡ None → parent_of m q ≡ Some p → ⊥
entry_none m q p none is =
    let has = parent_has m q p is in
    no_entry (has_id q) (fin.entries m) q has.0 none (sym (fin.get-entries m q) ∙ has.1) (eq-eqb q q refl)

pub or_true : (a b : Bool) → b ≡ true → (a || b) ≡ true
or_true true b e = refl
or_true false b e = e

found_within : (m : Items) (n k q up : ℕ) → k ≤ n → Leads (parent_of m) k q up → lies_in (fin.entries m) n q up ≡ true
unfolding lies_in
found_within m zero zero q up le l = eq-eqb q up l
found_within m zero (suc k) q up le l = absurd (omega arith)
found_within m (suc n) zero q up le l = ap (λ (b : Bool). b || option_map_or (λ (e : Entry). lies_in (fin.entries m) n e.1.parent up) (entry_at (fin.entries m) q) false) (eq-eqb q up l)
found_within m (suc n) (suc k) q up le l = or_true (eqb q up) _ (elim (entry_at (fin.entries m) q) as (λ (o : Option Entry). entry_at (fin.entries m) q ≡ o → option_map_or (λ (e : Entry). lies_in (fin.entries m) n e.1.parent up) o false ≡ true) [
  | None ↦ λ none. absurd (entry_none m q l.0 none l.1)
  | Some e ↦ λ is.
      let same : l.0 ≡ e.1.parent = same_some _ _ (sym l.1 ∙ entry_parent m q e is) in
      found_within m n k e.1.parent up (omega arith) (subst (λ (z : ℕ). Leads (parent_of m) k z up) same l.2)
] refl)

is_found : (m : Items) (n q up : ℕ) → lies_in (fin.entries m) n q up ≡ true → LiesIn m q up
unfolding lies_in
is_found m zero q up is = (0, eqb-true q up is)
is_found m (suc n) q up is = elim (eqb q up) as (λ (b : Bool). eqb q up ≡ b → (b || option_map_or (λ (e : Entry). lies_in (fin.entries m) n e.1.parent up) (entry_at (fin.entries m) q) false) ≡ true → LiesIn m q up) [
  | true ↦ λ e here. (0, eqb-true q up e)
  | false ↦ λ e above. elim (entry_at (fin.entries m) q) as (λ (o : Option Entry). entry_at (fin.entries m) q ≡ o → option_map_or (λ (e : Entry). lies_in (fin.entries m) n e.1.parent up) o false ≡ true → LiesIn m q up) [
    | None ↦ λ none f. absurd (true_false false f refl)
    | Some x ↦ λ some f. let rest = is_found m n x.1.parent up f in (suc rest.0, (x.1.parent, entry_parent m q x some, rest.1))
  ] refl above
] refl is

-- on a lawful map the search, bounded by the number of items, finds what lies in it at any depth
pub lies_in_is : (m : Items) (next q up : ℕ) → AreLawful m next → (lies_in (fin.entries m) (length (fin.entries m)) q up ≡ true → LiesIn m q up) × (LiesIn m q up → lies_in (fin.entries m) (length (fin.entries m)) q up ≡ true)
lies_in_is m next q up h = (is_found m _ q up, λ (l : LiesIn m q up). found_within m _ l.0 q up (steps_within m next h l.0 q up l.1) l.1)
