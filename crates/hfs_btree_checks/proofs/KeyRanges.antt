-- The range of the keys of two ranges.
use Rattle.std.proofs.Common.{◌≡◌, ℕ, List, Bool, true, false, [], ◌∷◌, ◌++◌, Option, Some, None, refl, sym, ap, ◌∙◌, inl, inr}
use Rattle.std.specs.Prelude.{◌&&◌, cond, not}
use Rattle.std.specs.Cmp.{IsTotalOrder}
use Rattle.std.specs.declared.cmp.Ordering.{Ordering}
use Rattle.std.specs.declared.cmp.Ordering.TheVariants.{Less, Equal, Greater}
use Rattle.std.specs.Ordering.{is_gt, is_lt}
use Rattle.std.proofs.lemmas.Bool.{and_parts, and_from, cases_Bool, cond-true, cond-false, not-true}
use Rattle.hfs_btree_checks.specs.declared.key_range.KeyRange.{KeyRange}
use Rattle.hfs_btree.specs.Pairs.{Order, Pairs}
use Rattle.hfs_fields.proofs.ElementLemmas.{each-append, each-left, each-right}
use Rattle.hfs_btree.proofs.LookupLemmas.{flipped, above-below, lt-le, le-lt}
use Rattle.hfs_fields.proofs.OrderLemmas.{less-by}
use Rattle.hfs_btree_checks.specs.Subtree.{is_at_most, is_above, HasRange}

and-after : (a b : Bool) → (a ≡ true → b ≡ true) → a ≡ (b && a)
and-after true true h = refl
and-after true false h = sym (h refl)
and-after false true h = refl
and-after false false h = refl

and-before : (a b : Bool) → (a ≡ true → b ≡ true) → a ≡ (a && b)
and-before true true h = refl
and-before true false h = sym (h refl)
and-before false b h = refl

module _ {K : Type 0} (cmp : Order K) (total : IsTotalOrder cmp) where
  not-below_by : (x y : K) (o : Ordering) → cmp x y ≡ o → is_lt o ≡ false → is_gt (cmp y x) ≡ false
  not-below_by x y Less e h = cc
  not-below_by x y Equal e h = ap is_gt (flipped cmp total x y Equal e)
  not-below_by x y Greater e h = ap is_gt (flipped cmp total x y Greater e)

  not-below : (x y : K) → is_lt (cmp x y) ≡ false → is_gt (cmp y x) ≡ false
  not-below x y h = not-below_by x y (cmp x y) refl h

  -- x ≤ y and y ≤ z
  le-le : (x y z : K) → is_gt (cmp x y) ≡ false → is_lt (cmp z y) ≡ false → is_gt (cmp x z) ≡ false
  le-le x y z h k =
      elim (cases_Bool (is_gt (cmp x z))) [
        | inl gt ↦ absurd (let below : is_lt (cmp z y) ≡ true = ap is_lt (lt-le cmp total z x y (above-below cmp total x z gt) h) in cc)
        | inr fine ↦ fine
      ]

  pub at-most-lesser : (key x y : K) → not (is_gt (cmp key (cond (is_lt (cmp y x)) y x))) ≡ (not (is_gt (cmp key x)) && not (is_gt (cmp key y)))
  at-most-lesser key x y =
      elim (cases_Bool (is_lt (cmp y x))) [
        | inl lt ↦
            ap (λ k. not (is_gt (cmp key k))) (cond-true (is_lt (cmp y x)) y x lt)
            ∙ and-after _ _ (λ h. ap (λ o. not (is_gt o)) (le-lt cmp total key y x (not-true (is_gt (cmp key y)) h) ((less-by (cmp y x)).0 lt)))
        | inr ge ↦
            ap (λ k. not (is_gt (cmp key k))) (cond-false (is_lt (cmp y x)) y x ge)
            ∙ and-before _ _ (λ h. ap not (le-le key x y (not-true (is_gt (cmp key x)) h) ge))
      ]

  pub above-greater : (key x y : K) → is_lt (cmp (cond (is_lt (cmp x y)) y x) key) ≡ (is_lt (cmp x key) && is_lt (cmp y key))
  above-greater key x y =
      elim (cases_Bool (is_lt (cmp x y))) [
        | inl lt ↦
            ap (λ k. is_lt (cmp k key)) (cond-true (is_lt (cmp x y)) y x lt)
            ∙ and-after _ _ (λ h. ap is_lt (total.trans x y key ((less-by (cmp x y)).0 lt) ((less-by (cmp y key)).0 h)))
        | inr ge ↦
            ap (λ k. is_lt (cmp k key)) (cond-false (is_lt (cmp x y)) y x ge)
            ∙ and-before _ _ (λ h. ap is_lt (le-lt cmp total y x key (not-below x y ge) ((less-by (cmp x key)).0 h)))
      ]

module _ {K : Type 0} (cmp : Order K) where
  -- a range that tests as two ranges do
  pub joined-by : (a b r : Option (KeyRange K)) (ps qs : Pairs K) → ((key : K) → is_at_most cmp key r ≡ (is_at_most cmp key a && is_at_most cmp key b))
      → ((key : K) → is_above cmp key r ≡ (is_above cmp key a && is_above cmp key b)) → HasRange cmp a ps → HasRange cmp b qs → HasRange cmp r (ps ++ qs)
  joined-by a b r ps qs least greatest h k = record {
    least = λ key. (
      λ is.
          let both = and_parts (is_at_most cmp key a) (is_at_most cmp key b) (sym (least key) ∙ is) in
          each-append _ ps qs ((h.least key).0 both.0) ((k.least key).0 both.1),
      λ each. least key ∙ and_from _ _ ((h.least key).1 (each-left _ ps qs each)) ((k.least key).1 (each-right _ ps qs each)),
    );
    greatest = λ key. (
      λ is.
          let both = and_parts (is_above cmp key a) (is_above cmp key b) (sym (greatest key) ∙ is) in
          each-append _ ps qs ((h.greatest key).0 both.0) ((k.greatest key).0 both.1),
      λ each. greatest key ∙ and_from _ _ ((h.greatest key).1 (each-left _ ps qs each)) ((k.greatest key).1 (each-right _ ps qs each)),
    );
  }

  and-true : (b : Bool) → b ≡ (b && true)
  and-true b = and-before b true (λ _. refl)

  pub joined-none-first : (b : Option (KeyRange K)) (ps qs : Pairs K) → HasRange cmp None ps → HasRange cmp b qs → HasRange cmp b (ps ++ qs)
  joined-none-first b ps qs h k = joined-by None b b ps qs (λ key. refl) (λ key. refl) h k

  pub joined-none-second : (a : Option (KeyRange K)) (ps qs : Pairs K) → HasRange cmp a ps → HasRange cmp None qs → HasRange cmp a (ps ++ qs)
  joined-none-second a ps qs h k = joined-by a None a ps qs (λ key. and-true (is_at_most cmp key a)) (λ key. and-true (is_above cmp key a)) h k

  -- no keys, and one key
  pub range-none : HasRange cmp None []
  range-none = record { least = λ key. (λ _. tt, λ _. refl); greatest = λ key. (λ _. tt, λ _. refl) }

pub joined-some : {K : Type 0} (cmp : Order K) (total : IsTotalOrder cmp) (a b : KeyRange K) (least greatest : K) → least ≡ cond (is_lt (cmp b.least a.least)) b.least a.least
    → greatest ≡ cond (is_lt (cmp a.greatest b.greatest)) b.greatest a.greatest → (ps qs : Pairs K) → HasRange cmp (Some a) ps → HasRange cmp (Some b) qs
    → HasRange cmp (Some (record { least = least; greatest = greatest })) (ps ++ qs)
joined-some cmp total a b least greatest le gr ps qs h k =
    joined-by cmp (Some a) (Some b) _ ps qs (λ key. ap (λ x. not (is_gt (cmp key x))) le ∙ at-most-lesser cmp total key a.least b.least) (λ key. ap (λ x. is_lt (cmp x key)) gr ∙ above-greater cmp total key a.greatest b.greatest) h k

-- ---- the key of one record

pub is-less : (o : Ordering) → is_lt o ≡ true → o ≡ Less
is-less Less h = refl
is-less Equal h = cc
is-less Greater h = cc

-- the range of one key
pub one-range : {K : Type 0} (cmp : Order K) (k : K) (p : K × List ℕ) → k ≡ p.0 → HasRange cmp (Some (record { least = k; greatest = k })) (p ∷ [])
one-range cmp k p e = record {
  least = λ key. (λ t. (ap (λ x. is_gt (cmp key x)) (sym e) ∙ not-true (is_gt (cmp key k)) t, tt), λ h. ap not (ap (λ x. is_gt (cmp key x)) e ∙ h.0));
  greatest = λ key. (λ t. (ap (λ x. cmp x key) (sym e) ∙ is-less (cmp k key) t, tt), λ h. ap is_lt (ap (λ x. cmp x key) e ∙ h.0));
}

module _ {K : Type 0} (cmp : Order K) (total : IsTotalOrder cmp) where
  gt-lt_by : (x y : K) (o : Ordering) → cmp x y ≡ o → is_gt o ≡ is_lt (cmp y x)
  gt-lt_by x y Less e = sym (ap is_lt (flipped cmp total x y Less e))
  gt-lt_by x y Equal e = sym (ap is_lt (flipped cmp total x y Equal e))
  gt-lt_by x y Greater e = sym (ap is_lt (flipped cmp total x y Greater e))

  gt-lt : (x y : K) → is_gt (cmp x y) ≡ is_lt (cmp y x)
  gt-lt x y = gt-lt_by x y (cmp x y) refl

  pub widened-some : (a : KeyRange K) (p : K × List ℕ) (least greatest : K) → least ≡ cond (is_gt (cmp a.least p.0)) p.0 a.least → greatest ≡ cond (is_lt (cmp a.greatest p.0)) p.0 a.greatest → (ps : Pairs K)
      → HasRange cmp (Some a) ps → HasRange cmp (Some (record { least = least; greatest = greatest })) (ps ++ p ∷ [])
  widened-some a p least greatest le gr ps h =
      joined-some cmp total a (record { least = p.0; greatest = p.0 }) least greatest (le ∙ ap (λ (b : Bool). cond b p.0 a.least) (gt-lt a.least p.0)) gr ps (p ∷ []) h (one-range cmp p.0 p refl)

  pub widened-none : (k : K) (p : K × List ℕ) → k ≡ p.0 → (ps : Pairs K) → HasRange cmp None ps → HasRange cmp (Some (record { least = k; greatest = k })) (ps ++ p ∷ [])
  widened-none k p e ps h = joined-none-first cmp (Some (record { least = k; greatest = k })) ps (p ∷ []) h (one-range cmp k p e)

  -- what is above the greatest of some keys is not below the least of them
  pub least-below : (a : KeyRange K) (p : K) (ps : Pairs K) → HasRange cmp (Some a) ps → is_lt (cmp a.greatest p) ≡ true → is_gt (cmp a.least p) ≡ false
  least-below a p [] h above = absurd (let same : is_lt (cmp a.greatest a.greatest) ≡ true = (h.greatest a.greatest).1 tt in let less = is-less _ same in let more = flipped cmp total a.greatest a.greatest Less less in cc)
  least-below a p (q ∷ ps) h above =
      elim (cases_Bool (is_gt (cmp a.least p))) [
        | inl gt ↦
            absurd (
            let most : is_gt (cmp p q.0) ≡ false = ((h.least p).0 (ap (λ o. not (is_gt o)) (above-below cmp total a.least p gt))).0 in
            let less : cmp q.0 p ≡ Less = ((h.greatest p).0 above).0 in
            let more : is_gt (cmp p q.0) ≡ true = ap is_gt (flipped cmp total q.0 p Less less) in
            cc
            )
        | inr fine ↦ fine
      ]

  -- a key above the greatest, which is compared with it alone
  pub widened-above : (a : KeyRange K) (p : K × List ℕ) (greatest : K) → greatest ≡ p.0 → is_lt (cmp a.greatest p.0) ≡ true → (ps : Pairs K)
      → HasRange cmp (Some a) ps → HasRange cmp (Some (record { least = a.least; greatest = greatest })) (ps ++ p ∷ [])
  widened-above a p greatest e above ps h =
      widened-some a p a.least greatest (sym (cond-false (is_gt (cmp a.least p.0)) p.0 a.least (least-below a p.0 ps h above)))
      (e ∙ sym (cond-true (is_lt (cmp a.greatest p.0)) p.0 a.greatest above)) ps h

  -- a key that is not
  pub widened-within : (a : KeyRange K) (p : K × List ℕ) (least : K) → least ≡ cond (is_gt (cmp a.least p.0)) p.0 a.least → is_lt (cmp a.greatest p.0) ≡ false → (ps : Pairs K)
      → HasRange cmp (Some a) ps → HasRange cmp (Some (record { least = least; greatest = a.greatest })) (ps ++ p ∷ [])
  widened-within a p least le within ps h = widened-some a p least a.greatest le (sym (cond-false (is_lt (cmp a.greatest p.0)) p.0 a.greatest within)) ps h
