-- Pairs with one of them replaced or taken out.
use Rattle.std.proofs.Common.{◌≡◌, ℕ, List, [], ◌∷◌, ◌++◌, ap, ◌∙◌}
use Rattle.std.specs.declared.cmp.Ordering.TheVariants.{Less, Equal, Greater}
use Rattle.std.specs.Ordering.{is_eq}
use Rattle.std.specs.Cmp.{IsTotalOrder}
use Rattle.std.proofs.lemmas.Bool.{cond-true, cond-false}
use Rattle.hfs_btree.specs.Pairs.{Order, Pairs, Rises, IsAbove}
use Rattle.hfs_btree.proofs.PairLemmas.{IsBelow}
use Rattle.hfs_fields.proofs.ElementLemmas.{each-mono, each-left, each-right, each-append}
use Rattle.hfs_btree_edits.specs.Edits.{with_replaced, without_pair}
use Rattle.hfs_btree.proofs.LookupLemmas.{flipped}

module _ {K : Type 0} (cmp : Order K) (total : IsTotalOrder cmp) where
  -- where x is equal to y, what is below one is below the other
  pub less-equal : (x y z : K) → cmp x y ≡ Less → cmp z y ≡ Equal → cmp x z ≡ Less
  less-equal x y z lt eq = flipped cmp total z x Greater (total.congr z y x eq ∙ flipped cmp total x y Less lt)

  pub swap-equal : (x y : K) → cmp x y ≡ Equal → cmp y x ≡ Equal
  swap-equal x y e = flipped cmp total x y Equal e

  -- what stands before a pair of a rising list is below it, what stands behind is above it
  pub rises-before : (xs : Pairs K) (p : K × List ℕ) (ys : Pairs K) → Rises cmp (xs ++ p ∷ ys) → IsAbove cmp p.0 xs
  rises-before [] p ys h = tt
  rises-before (x ∷ xs) p ys h = ((each-right _ xs (p ∷ ys) h.0).0, rises-before xs p ys h.1)

  -- a list stays rising where a pair is taken out
  pub rises-without : (xs : Pairs K) (p : K × List ℕ) (ys : Pairs K) → Rises cmp (xs ++ p ∷ ys) → Rises cmp (xs ++ ys)
  rises-without [] p ys h = h.1
  rises-without (x ∷ xs) p ys h = (each-append _ xs ys (each-left _ xs (p ∷ ys) h.0) (each-right _ xs (p ∷ ys) h.0).1, rises-without xs p ys h.1)

  -- and where one with an equal key takes its place
  pub rises-with : (xs : Pairs K) (p q : K × List ℕ) (ys : Pairs K) → cmp q.0 p.0 ≡ Equal → Rises cmp (xs ++ p ∷ ys) → Rises cmp (xs ++ q ∷ ys)
  rises-with [] p q ys e h = (each-mono _ _ ys (λ y lt. total.congr q.0 p.0 y.0 e ∙ lt) h.0, h.1)
  rises-with (x ∷ xs) p q ys e h =
      let both = each-right (λ y. cmp x.0 y.0 ≡ Less) xs (p ∷ ys) h.0 in
      (each-append (λ y. cmp x.0 y.0 ≡ Less) xs (q ∷ ys) (each-left (λ y. cmp x.0 y.0 ≡ Less) xs (p ∷ ys) h.0) (less-equal x.0 p.0 q.0 both.0 e, both.1), rises-with xs p q ys e h.1)

  module _ (key : K) (body : List ℕ) where
    pub replaced-at : (xs : Pairs K) (p : K × List ℕ) (ys : Pairs K) → IsAbove cmp key xs → cmp key p.0 ≡ Equal → with_replaced cmp key body (xs ++ p ∷ ys) ≡ xs ++ (key, body) ∷ ys
    replaced-at [] p ys h e = cond-true (is_eq (cmp key p.0)) _ _ (ap is_eq e)
    replaced-at (x ∷ xs) p ys h e =
        cond-false (is_eq (cmp key x.0)) _ _ (ap is_eq (flipped cmp total x.0 key Less h.0)) ∙ ap (λ (rs : Pairs K). x ∷ rs) (replaced-at xs p ys h.1 e)

    pub without-at : (xs : Pairs K) (p : K × List ℕ) (ys : Pairs K) → IsAbove cmp key xs → cmp key p.0 ≡ Equal → without_pair cmp key (xs ++ p ∷ ys) ≡ xs ++ ys
    without-at [] p ys h e = cond-true (is_eq (cmp key p.0)) _ _ (ap is_eq e)
    without-at (x ∷ xs) p ys h e =
        cond-false (is_eq (cmp key x.0)) _ _ (ap is_eq (flipped cmp total x.0 key Less h.0)) ∙ ap (λ (rs : Pairs K). x ∷ rs) (without-at xs p ys h.1 e)

  -- what is below a key is below one that is equal to it
  pub above-equal : (x y : K) (ps : Pairs K) → cmp y x ≡ Equal → IsAbove cmp x ps → IsAbove cmp y ps
  above-equal x y ps e h = each-mono _ _ ps (λ p lt. less-equal p.0 x y lt e) h
