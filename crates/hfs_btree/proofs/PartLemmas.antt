-- The parts under an index node: the pairs under each of its children.
use Rattle.std.proofs.Common.{◌≡◌, ℕ, zero, suc, ◌+◌, ◌-◌, ◌<◌, ◌≤◌, Bool, true, false, List, [], ◌∷◌, length, map, get_or, take, drop, refl, sym, ap, ◌∙◌, subst, arith, inl, inr}
use Rattle.std.specs.Prelude.{not}
use Rattle.std.specs.Ordering.{is_gt}
use Rattle.std.specs.declared.cmp.Ordering.TheVariants.{Less}
use Rattle.std.specs.Cmp.{IsTotalOrder}
use Rattle.std.specs.List.{flat_map, prefix_len}
use Rattle.std.proofs.lemmas.Bool.{cases_Bool, cond-true, cond-false}
use Rattle.hfs_btree.specs.Pairs.{Order, Pairs, IsAbove, IsAtMost}
use Rattle.hfs_btree.proofs.PairLemmas.{IsBelow}
use Rattle.hfs_fields.specs.Each.{Each}
use Rattle.hfs_btree.specs.Sound.{ArePartsInOrder}
use Rattle.hfs_fields.proofs.ElementLemmas.{each-mono, each-append, each-right}
use Rattle.hfs_btree.proofs.LookupLemmas.{above-below, lt-le, le-lt, flipped}

module _ {K : Type 0} (cmp : Order K) (total : IsTotalOrder cmp) (t : K) (key : List ℕ → K) (own : List ℕ → Pairs K) where
  abbrev fits : List ℕ → Bool
  fits e = not (is_gt (cmp (key e) t))

  abbrev keyed : Pairs K → List (List ℕ) → Type 0
  keyed before es = ArePartsInOrder cmp before (map (λ e. (key e, own e)) es)

  abbrev some : List (List ℕ) → Type 0
  some es = Each (λ e. 0 < length (own e)) es

  pub first-above : (e : List ℕ) (es : List (List ℕ)) → prefix_len fits (e ∷ es) ≡ 0 → cmp t (key e) ≡ Less
  first-above e es z =
      elim (cases_Bool (is_gt (cmp (key e) t))) [
        | inl gt ↦ above-below cmp total (key e) t gt
        | inr notgt ↦ absurd (let counted : 1 + prefix_len fits es ≡ 0 = sym (cond-true (fits e) (1 + prefix_len fits es) 0 (ap not notgt)) ∙ z in omega arith)
      ]

  none-fits : (e : List ℕ) (es : List (List ℕ)) → cmp t (key e) ≡ Less → prefix_len fits (e ∷ es) ≡ 0
  none-fits e es less = cond-false (fits e) (1 + prefix_len fits es) 0 (ap not (ap is_gt (flipped cmp total t (key e) Less less)))

  -- what is below some pairs is below a key that is above them
  past : (k : K) (ps : Pairs K) → 0 < length ps → IsBelow cmp t ps → IsAbove cmp k ps → cmp t k ≡ Less
  past k [] some below above = absurd (omega arith)
  past k (p ∷ ps) some below above = total.trans t p.0 k below.0 above.0

  -- where the first key is above, so are all pairs
  pub all-above : (before : Pairs K) (es : List (List ℕ)) → prefix_len fits es ≡ 0 → keyed before es → some es → IsBelow cmp t (flat_map own es)
  all-above before [] z h nonempty = tt
  all-above before (e ∷ []) z h nonempty =
      each-append _ (own e) [] (each-mono _ _ (own e) (λ p le. lt-le cmp total t (key e) p.0 (first-above e [] z) le) h.1) tt
  all-above before (e ∷ f ∷ es) z h nonempty =
      let here : IsBelow cmp t (own e) = each-mono _ _ (own e) (λ p le. lt-le cmp total t (key e) p.0 (first-above e (f ∷ es) z) le) h.1 in
      let next : prefix_len fits (f ∷ es) ≡ 0 = none-fits f es (past (key f) (own e) nonempty.0 here h.2.0) in
      each-append _ (own e) (flat_map own (f ∷ es)) here (all-above (own e) (f ∷ es) next h.2 nonempty.1)

  -- where the first fits, one more than of the rest
  pub rest-count : (e : List ℕ) (es : List (List ℕ)) (p : ℕ) → prefix_len fits (e ∷ es) ≡ suc p → 1 + prefix_len fits es ≡ suc p
  rest-count e es p z =
      elim (cases_Bool (is_gt (cmp (key e) t))) [
        | inl gt ↦ absurd (let counted : 0 ≡ suc p = sym (cond-false (fits e) (1 + prefix_len fits es) 0 (ap not gt)) ∙ z in omega arith)
        | inr notgt ↦ sym (cond-true (fits e) (1 + prefix_len fits es) 0 (ap not notgt)) ∙ z
      ]

  pub first-fits : (e : List ℕ) (es : List (List ℕ)) (p : ℕ) → prefix_len fits (e ∷ es) ≡ suc p → is_gt (cmp (key e) t) ≡ false
  first-fits e es p z =
      elim (cases_Bool (is_gt (cmp (key e) t))) [
        | inl gt ↦ absurd (let counted : 0 ≡ suc p = sym (cond-false (fits e) (1 + prefix_len fits es) 0 (ap not gt)) ∙ z in omega arith)
        | inr notgt ↦ notgt
      ]

  -- the pairs before the last part whose key fits are below
  below-part : (p : ℕ) (before : Pairs K) (es : List (List ℕ)) → prefix_len fits es ≡ suc p → keyed before es → IsAbove cmp t (flat_map own (take p es))
  below-part zero before es z h = tt
  below-part (suc p) before [] z h = absurd (omega arith)
  below-part (suc p) before (e ∷ []) z h = absurd (omega (arith, rest-count e [] (suc p) z))
  below-part (suc p) before (e ∷ f ∷ es) z h =
      let more : prefix_len fits (f ∷ es) ≡ suc p = omega (arith, rest-count e (f ∷ es) (suc p) z) in
      let here : IsAbove cmp t (own e) = each-mono _ _ (own e) (λ q lt. lt-le cmp total q.0 (key f) t lt (first-fits f es p more)) h.2.0 in
      each-append _ (own e) (flat_map own (take p (f ∷ es))) here (below-part p (own e) (f ∷ es) more h.2)

  -- those behind it are above
  above-part : (p : ℕ) (before : Pairs K) (es : List (List ℕ)) → prefix_len fits es ≡ suc p → keyed before es → some es → IsBelow cmp t (flat_map own (drop (suc p) es))
  above-part p before [] z h nonempty = absurd (omega arith)
  above-part zero before (e ∷ es) z h nonempty =
      let none : prefix_len fits es ≡ 0 = omega (arith, rest-count e es zero z) in
      all-above (own e) es none h.2 nonempty.1
  above-part (suc p) before (e ∷ es) z h nonempty =
      let more : prefix_len fits es ≡ suc p = omega (arith, rest-count e es (suc p) z) in
      above-part p (own e) es more h.2 nonempty.1

  -- the place where the search goes on
  abbrev place : List (List ℕ) → ℕ
  place es = prefix_len fits es - 1

  by_count : (n : ℕ) (es : List (List ℕ)) → prefix_len fits es ≡ n → keyed [] es → some es
      → IsAbove cmp t (flat_map own (take (n - 1) es)) × IsBelow cmp t (flat_map own (drop (suc (n - 1)) es))
  by_count zero [] z h nonempty = (tt, tt)
  by_count zero (e ∷ es) z h nonempty = (tt, each-right _ (own e) (flat_map own es) (all-above [] (e ∷ es) z h nonempty))
  by_count (suc p) es z h nonempty =
      let same : suc p - 1 ≡ p = omega arith in
      let P : ℕ → Type 0 = λ k. IsAbove cmp t (flat_map own (take k es)) × IsBelow cmp t (flat_map own (drop (suc k) es)) in
      subst P (sym same) (below-part p [] es z h, above-part p [] es z h nonempty)

  pub beside-place : (es : List (List ℕ)) → keyed [] es → some es
      → IsAbove cmp t (flat_map own (take (place es) es)) × IsBelow cmp t (flat_map own (drop (suc (place es)) es))
  beside-place es h nonempty = by_count (prefix_len fits es) es refl h nonempty

  -- ---- the parts before one whose key fits

  not-above : (b : Bool) → not b ≡ true → b ≡ false
  not-above true e = cc
  not-above false e = refl

  fits-too : (e f : List ℕ) (ps : Pairs K) → 0 < length ps → IsAtMost cmp (key e) ps → IsAbove cmp (key f) ps → fits f ≡ true → fits e ≡ true
  fits-too e f [] more most above good = absurd (omega arith)
  fits-too e f (p ∷ ps) more most above good =
      let less : cmp (key e) (key f) ≡ Less = le-lt cmp total (key e) p.0 (key f) most.0 above.0 in
      ap not (ap is_gt (lt-le cmp total (key e) (key f) t less (not-above (is_gt (cmp (key f) t)) good)))

  pub earlier-fit : (before : Pairs K) (c : ℕ) (es : List (List ℕ)) → c < length es → keyed before es → some es → fits (get_or es c []) ≡ true → (j : ℕ) → j ≤ c → fits (get_or es j []) ≡ true
  earlier-fit before c [] lt h nonempty good j le = absurd (omega (arith, lt))
  earlier-fit before zero (e ∷ es) lt h nonempty good zero le = good
  earlier-fit before zero (e ∷ es) lt h nonempty good (suc j) le = absurd (omega (arith, le))
  earlier-fit before (suc c) (e ∷ []) lt h nonempty good j le = absurd (omega (arith, lt))
  earlier-fit before (suc c) (e ∷ f ∷ es) lt h nonempty good zero le =
      fits-too e f (own e) nonempty.0 h.1 h.2.0 (earlier-fit (own e) c (f ∷ es) (omega (arith, lt)) h.2 nonempty.1 good zero (omega arith))
  earlier-fit before (suc c) (e ∷ f ∷ es) lt h nonempty good (suc j) le = earlier-fit (own e) c (f ∷ es) (omega (arith, lt)) h.2 nonempty.1 good j (omega (arith, le))
