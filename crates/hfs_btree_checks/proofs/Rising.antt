-- Keys that rise above the one before rise above all before.
use Rattle.std.proofs.Common.{◌≡◌, ℕ, suc, ◌+◌, ◌<◌, Bool, true, false, cond, ◌&&◌, List, [], ◌∷◌, ◌++◌, length, Option, Some, None, refl, sym, ap, ◌∙◌, subst, arith, inl, inr, length-append}
use Rattle.std.specs.List.{list_all}
use Rattle.std.specs.Option.{option_map}
use Rattle.std.specs.Ordering.{is_lt}
use Rattle.std.specs.declared.cmp.Ordering.TheVariants.{Less}
use Rattle.std.specs.Cmp.{IsTotalOrder}
use Rattle.std.proofs.lemmas.Bool.{cases_Bool, cond-true, cond-false, and_from}
use Rattle.std.proofs.lemmas.List.Folds.{list_all-append}
use Rattle.hfs_btree.specs.Pairs.{Order, Pairs, IsAbove}
use Rattle.hfs_fields.proofs.ElementLemmas.{each-append, each-mono}
use Rattle.hfs_fields.specs.First.{first_failing}
use Rattle.hfs_btree_checks.specs.Order.{is_above_all, rise_fault}
use Rattle.hfs_btree_checks.specs.Rises.{is_past, fall_from, last_key}
use Rattle.hfs_btree_checks.proofs.KeyRanges.{is-less}

and-false : (b : Bool) → (b && false) ≡ false
and-false true = refl
and-false false = refl

and-last : (a b : Bool) → (b ≡ true → a ≡ true) → (a && (b && true)) ≡ b
and-last a true h = ap (λ (x : Bool). x && true) (h refl)
and-last a false h = and-false a

module _ {K : Type 0} (cmp : Order K) (total : IsTotalOrder cmp) where
  -- pairs that end with this key, and all before are below it; none where there is no key
  abbrev IsTop : Option K → Pairs K → Type 0
  IsTop None before = before ≡ []
  IsTop (Some k) before = (init : Pairs K) × (body : List ℕ) × (before ≡ init ++ (k, body) ∷ []) × IsAbove cmp k init

  below-all : (k t : K) (ps : Pairs K) → IsAbove cmp k ps → cmp k t ≡ Less → list_all (λ e. is_lt (cmp e.0 t)) ps ≡ true
  below-all k t [] above less = refl
  below-all k t (p ∷ ps) above less =
      and_from (is_lt (cmp p.0 t)) (list_all (λ e. is_lt (cmp e.0 t)) ps) (ap is_lt (total.trans p.0 k t above.0 less)) (below-all k t ps above.1 less)

  test-is : (last : Option K) (before : Pairs K) → IsTop last before → (p : K × List ℕ) → is_above_all cmp before p ≡ is_past cmp last p.0
  unfolding is_above_all
  test-is None before top p = ap (λ (ps : Pairs K). list_all (λ e. is_lt (cmp e.0 p.0)) ps) top
  test-is (Some k) before (init, body, split, above) p =
      ap (λ (ps : Pairs K). list_all (λ e. is_lt (cmp e.0 p.0)) ps) split
      ∙ list_all-append (λ e. is_lt (cmp e.0 p.0)) init ((k, body) ∷ [])
      ∙ and-last (list_all (λ e. is_lt (cmp e.0 p.0)) init) (is_lt (cmp k p.0)) (λ lt. below-all k p.0 init above (is-less (cmp k p.0) lt))

  top-above : (last : Option K) (before : Pairs K) → IsTop last before → (t : K) → is_past cmp last t ≡ true → IsAbove cmp t before
  top-above None before top t past = let P : Pairs K → Type 0 = λ ps. IsAbove cmp t ps in subst P (sym top) tt
  top-above (Some k) before (init, body, split, above) t past =
      let less : cmp k t ≡ Less = is-less (cmp k t) past in
      let P : Pairs K → Type 0 = λ ps. IsAbove cmp t ps in
      subst P (sym split) (each-append _ init ((k, body) ∷ []) (each-mono _ _ init (λ p h. total.trans p.0 k t h less) above) (less, tt))

  top-more : (last : Option K) (before : Pairs K) → IsTop last before → (p : K × List ℕ) → is_past cmp last p.0 ≡ true → IsTop (Some p.0) (before ++ p ∷ [])
  top-more last before top p past = (before, p.1, refl, top-above last before top p.0 past)

  fall-is : (last : Option K) (before ps : Pairs K) → IsTop last before → first_failing (is_above_all cmp) before ps ≡ fall_from cmp last (length before) ps
  fall-is last before [] top = refl
  fall-is last before (p ∷ ps) top =
      elim (cases_Bool (is_past cmp last p.0)) [
        | inl past ↦
            let more : length (before ++ p ∷ []) ≡ suc (length before) = omega (arith, length-append before (p ∷ [])) in
            cond-true (is_above_all cmp before p) _ _ (test-is last before top p ∙ past)
            ∙ fall-is (Some p.0) (before ++ p ∷ []) ps (top-more last before top p past)
            ∙ ap (λ (i : ℕ). fall_from cmp (Some p.0) i ps) more
            ∙ sym (cond-true (is_past cmp last p.0) _ _ past)
        | inr falls ↦ cond-false (is_above_all cmp before p) _ _ (test-is last before top p ∙ falls) ∙ sym (cond-false (is_past cmp last p.0) _ _ falls)
      ]

  -- to compare each key with the one before is enough
  pub rise-is : (ps : Pairs K) → rise_fault cmp ps ≡ fall_from cmp None 0 ps
  unfolding rise_fault
  rise-is ps = fall-is None [] ps refl

-- ---- of pairs in parts

none-some : (b : Bool) (o : Option ℕ) (i : ℕ) → cond b o (Some i) ≡ None → (b ≡ true) × (o ≡ None)
none-some true o i h = (refl, h)
none-some false o i h = cc

module _ {K : Type 0} (cmp : Order K) where
  pub fall-append : (last : Option K) (i : ℕ) (xs ys : Pairs K) → fall_from cmp last i xs ≡ None → fall_from cmp last i (xs ++ ys) ≡ fall_from cmp (last_key last xs) (length xs + i) ys
  fall-append last i [] ys none = let same : i ≡ 0 + i = omega arith in ap (λ (j : ℕ). fall_from cmp last j ys) same
  fall-append last i (x ∷ xs) ys none =
      let here = none-some (is_past cmp last x.0) (fall_from cmp (Some x.0) (suc i) xs) i none in
      let place : length xs + suc i ≡ suc (length xs) + i = omega arith in
      cond-true (is_past cmp last x.0) _ _ here.0
      ∙ fall-append (Some x.0) (suc i) xs ys here.1
      ∙ ap (λ (j : ℕ). fall_from cmp (last_key (Some x.0) xs) j ys) place

  left_by : (b : Bool) (o q : Option ℕ) (i j : ℕ) → (o ≡ Some j → q ≡ Some j) → cond b o (Some i) ≡ Some j → cond b q (Some i) ≡ Some j
  left_by true o q i j f h = f h
  left_by false o q i j f h = h

  pub fall-left : (last : Option K) (i j : ℕ) (xs ys : Pairs K) → fall_from cmp last i xs ≡ Some j → fall_from cmp last i (xs ++ ys) ≡ Some j
  fall-left last i j [] ys some = cc
  fall-left last i j (x ∷ xs) ys some =
      left_by (is_past cmp last x.0) (fall_from cmp (Some x.0) (suc i) xs) (fall_from cmp (Some x.0) (suc i) (xs ++ ys)) i j (fall-left (Some x.0) (suc i) j xs ys) some

  shift_by : (b : Bool) (o q : Option ℕ) (i n : ℕ) → o ≡ option_map (λ j. j + n) q → cond b o (Some (i + n)) ≡ option_map (λ j. j + n) (cond b q (Some i))
  shift_by true o q i n e = e
  shift_by false o q i n e = refl

  -- numbered from another number on
  pub fall-shift : (last : Option K) (i n m : ℕ) (xs : Pairs K) → m ≡ i + n → fall_from cmp last m xs ≡ option_map (λ j. j + n) (fall_from cmp last i xs)
  fall-shift last i n m [] is = refl
  fall-shift last i n m (x ∷ xs) is =
      let next : suc m ≡ suc i + n = omega arith in
      ap (λ (j : ℕ). cond (is_past cmp last x.0) (fall_from cmp (Some x.0) (suc m) xs) (Some j)) is
      ∙ shift_by (is_past cmp last x.0) (fall_from cmp (Some x.0) (suc m) xs) (fall_from cmp (Some x.0) (suc i) xs) i n (fall-shift (Some x.0) (suc i) n (suc m) xs next)

  within_by : (b : Bool) (o : Option ℕ) (i j m : ℕ) → (o ≡ Some j → j < suc i + m) → cond b o (Some i) ≡ Some j → j < i + suc m
  within_by true o i j m f h = let less = f h in omega arith
  within_by false o i j m f h = let same : i ≡ j = cc in omega arith

  pub fall-within : (last : Option K) (i j : ℕ) (xs : Pairs K) → fall_from cmp last i xs ≡ Some j → j < i + length xs
  fall-within last i j [] some = cc
  fall-within last i j (x ∷ xs) some = within_by (is_past cmp last x.0) (fall_from cmp (Some x.0) (suc i) xs) i j (length xs) (fall-within (Some x.0) (suc i) j xs) some
