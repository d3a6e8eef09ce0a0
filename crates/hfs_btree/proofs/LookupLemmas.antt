-- Lemmas about the definitions of specs/Lookups.antt.
use Rattle.std.proofs.Common.{◌≡◌, ℕ, Bool, true, false, List, [], ◌∷◌, ◌++◌, Option, Some, None, refl, sym, ap, ◌∙◌, true≢false}
use Rattle.std.specs.Prelude.{cond}
use Rattle.std.specs.Option.{option_or}
use Rattle.std.specs.declared.cmp.Ordering.{Ordering}
use Rattle.std.specs.declared.cmp.Ordering.TheVariants.{Less, Equal, Greater}
use Rattle.std.specs.Ordering.{is_eq, is_gt, is_lt, ordering_reverse}
use Rattle.std.specs.Cmp.{IsTotalOrder}
use Rattle.std.proofs.lemmas.Option.{none-some}
use Rattle.hfs_btree.specs.Pairs.{Order, Pairs, Rises, lookup, after, pairs_from, IsAbove}
use Rattle.hfs_btree.proofs.PairLemmas.{IsBelow}
use Rattle.hfs_fields.specs.Each.{Each}
use Rattle.hfs_fields.proofs.ElementLemmas.{each-mono}
use Rattle.hfs_btree.specs.Lookups.{first_pair}

module _ {K : Type 0} (cmp : Order K) (total : IsTotalOrder cmp) where
  pub flipped : (x y : K) (o : Ordering) → cmp x y ≡ o → cmp y x ≡ ordering_reverse o
  flipped x y o e = total.antisymm y x ∙ ap ordering_reverse e

  above-below_by : (x y : K) (o : Ordering) → cmp x y ≡ o → is_gt o ≡ true → cmp y x ≡ Less
  above-below_by x y Less e h = cc
  above-below_by x y Equal e h = cc
  above-below_by x y Greater e h = flipped x y Greater e

  -- where x is above y, y is below x
  pub above-below : (x y : K) → is_gt (cmp x y) ≡ true → cmp y x ≡ Less
  above-below x y h = above-below_by x y (cmp x y) refl h

  lt-le_by : (x y z : K) (o : Ordering) → cmp x y ≡ Less → cmp y z ≡ o → is_gt o ≡ false → cmp x z ≡ Less
  lt-le_by x y z Less e f h = total.trans x y z e f
  lt-le_by x y z Equal e f h = flipped z x Greater (sym (total.congr y z x f) ∙ flipped x y Less e)
  lt-le_by x y z Greater e f h = cc

  -- x < y and y ≤ z
  pub lt-le : (x y z : K) → cmp x y ≡ Less → is_gt (cmp y z) ≡ false → cmp x z ≡ Less
  lt-le x y z e h = lt-le_by x y z (cmp y z) e refl h

  le-lt_by : (x y z : K) (o : Ordering) → cmp x y ≡ o → is_gt o ≡ false → cmp y z ≡ Less → cmp x z ≡ Less
  le-lt_by x y z Less e h f = total.trans x y z e f
  le-lt_by x y z Equal e h f = total.congr x y z e ∙ f
  le-lt_by x y z Greater e h f = cc

  -- x ≤ y and y < z
  pub le-lt : (x y z : K) → is_gt (cmp x y) ≡ false → cmp y z ≡ Less → cmp x z ≡ Less
  le-lt x y z h f = le-lt_by x y z (cmp x y) refl h f

  -- ---- the body under a key

  pub lookup-none : (t : K) (ps : Pairs K) → Each (λ p. is_eq (cmp t p.0) ≡ false) ps → lookup cmp t ps ≡ None
  lookup-none t [] h = refl
  lookup-none t (p ∷ ps) h = rw h.0 (lookup-none t ps h.1)

  lookup-right : (t : K) (ps qs : Pairs K) → Each (λ p. is_eq (cmp t p.0) ≡ false) ps → lookup cmp t (ps ++ qs) ≡ lookup cmp t qs
  lookup-right t [] qs h = refl
  lookup-right t (p ∷ ps) qs h = rw h.0 (lookup-right t ps qs h.1)

  lookup-left : (t : K) (ps qs : Pairs K) → Each (λ p. is_eq (cmp t p.0) ≡ false) qs → lookup cmp t (ps ++ qs) ≡ lookup cmp t ps
  lookup-left t [] qs h = lookup-none t qs h
  lookup-left t (p ∷ ps) qs h = ap (λ r. cond (is_eq (cmp t p.0)) (Some p.1) r) (lookup-left t ps qs h)

  -- a key that is below one of the pairs has no body where that one has
  below-other : (t x y : K) → cmp x y ≡ Less → is_eq (cmp t y) ≡ true → is_eq (cmp t x) ≡ false
  below-other t x y less same = by (cmp t x) refl
    where
      by : (o : Ordering) → cmp t x ≡ o → is_eq o ≡ false
      by Less e = refl
      by Greater e = refl
      by Equal e =
          let below : cmp t y ≡ Less = le-lt t x y (ap is_gt e) less in
          absurd (true≢false (sym same ∙ ap is_eq below))

  other-key : (t : K) (p : K × List ℕ) (ps : Pairs K) (b : List ℕ) → Each (λ q. cmp p.0 q.0 ≡ Less) ps → lookup cmp t ps ≡ Some b → is_eq (cmp t p.0) ≡ false
  other-key t p [] b rises is = absurd (none-some b is)
  other-key t p (q ∷ qs) b rises is = by (is_eq (cmp t q.0)) refl (other-key t p qs b rises.1)
    where
      by : (e : Bool) → is_eq (cmp t q.0) ≡ e → (lookup cmp t qs ≡ Some b → is_eq (cmp t p.0) ≡ false) → is_eq (cmp t p.0) ≡ false
      by true here rest = below-other t p.0 q.0 rises.0 here
      by false there rest = rest (sym (ap (λ e. cond e (Some q.1) (lookup cmp t qs)) there) ∙ is)

  lookup-first : (t : K) (ps qs : Pairs K) (b : List ℕ) → lookup cmp t ps ≡ Some b → lookup cmp t (ps ++ qs) ≡ Some b
  lookup-first t [] qs b is = absurd (none-some b is)
  lookup-first t (p ∷ ps) qs b is = by (is_eq (cmp t p.0)) refl (lookup-first t ps qs b)
    where
      by : (e : Bool) → is_eq (cmp t p.0) ≡ e → (lookup cmp t ps ≡ Some b → lookup cmp t (ps ++ qs) ≡ Some b) → lookup cmp t (p ∷ (ps ++ qs)) ≡ Some b
      by true here rest = ap (λ e. cond e (Some p.1) (lookup cmp t (ps ++ qs))) here ∙ sym (ap (λ e. cond e (Some p.1) (lookup cmp t ps)) here) ∙ is
      by false there rest = ap (λ e. cond e (Some p.1) (lookup cmp t (ps ++ qs))) there ∙ rest (sym (ap (λ e. cond e (Some p.1) (lookup cmp t ps)) there) ∙ is)

  -- what a part of rising pairs has under a key, all of them have
  pub lookup-part : (t : K) (before part behind : Pairs K) (b : List ℕ) → Rises cmp (before ++ (part ++ behind)) → lookup cmp t part ≡ Some b → lookup cmp t (before ++ (part ++ behind)) ≡ Some b
  lookup-part t [] part behind b rises is = lookup-first t part behind b is
  lookup-part t (p ∷ before) part behind b rises is =
      let rest = lookup-part t before part behind b rises.1 is in
      ap (λ e. cond e (Some p.1) (lookup cmp t (before ++ (part ++ behind)))) (other-key t p (before ++ (part ++ behind)) b rises.0 rest) ∙ rest

  pub below-differs : (t : K) (ps : Pairs K) → IsAbove cmp t ps → Each (λ p. is_eq (cmp t p.0) ≡ false) ps
  below-differs t ps h = each-mono _ _ ps (λ p e. ap is_eq (flipped p.0 t Less e)) h

  pub above-differs : (t : K) (ps : Pairs K) → IsBelow cmp t ps → Each (λ p. is_eq (cmp t p.0) ≡ false) ps
  above-differs t ps h = each-mono _ _ ps (λ p e. ap is_eq e) h

  -- pairs below the key before, and pairs above it behind
  module _ (t : K) (xs ps ys : Pairs K) (below : IsAbove cmp t xs) (above : IsBelow cmp t ys) where
    pub lookup-between : lookup cmp t (xs ++ (ps ++ ys)) ≡ lookup cmp t ps
    lookup-between = lookup-right t xs (ps ++ ys) (below-differs t xs below) ∙ lookup-left t ps ys (above-differs t ys above)

  after-past : (t : K) (ps qs : Pairs K) → IsAbove cmp t ps → after cmp t (ps ++ qs) ≡ after cmp t qs
  after-past t [] qs h = refl
  after-past t (p ∷ ps) qs h = let no : is_lt (cmp t p.0) ≡ false = ap is_lt (flipped p.0 t Less h.0) in rw no (after-past t ps qs h.1)

  after-all : (t : K) (ps : Pairs K) → IsBelow cmp t ps → after cmp t ps ≡ first_pair ps
  after-all t [] h = refl
  after-all t (p ∷ ps) h = let yes : is_lt (cmp t p.0) ≡ true = ap is_lt h.0 in rw yes refl

  after-or_by : (b : Bool) (p : K × List ℕ) (o x y : Option (K × List ℕ)) → o ≡ option_or x y → cond b (Some p) o ≡ option_or (cond b (Some p) x) y
  after-or_by true p o x y e = refl
  after-or_by false p o x y e = e

  after-or : (t : K) (ps qs : Pairs K) → after cmp t (ps ++ qs) ≡ option_or (after cmp t ps) (after cmp t qs)
  after-or t [] qs = refl
  after-or t (p ∷ ps) qs = after-or_by (is_lt (cmp t p.0)) p _ (after cmp t ps) (after cmp t qs) (after-or t ps qs)

  from-past : (t : K) (ps qs : Pairs K) → IsAbove cmp t ps → pairs_from cmp t (ps ++ qs) ≡ pairs_from cmp t qs
  from-past t [] qs h = refl
  from-past t (p ∷ ps) qs h = let yes : is_gt (cmp t p.0) ≡ true = ap is_gt (flipped p.0 t Less h.0) in rw yes (from-past t ps qs h.1)

  from-all : (t : K) (ps : Pairs K) → IsBelow cmp t ps → pairs_from cmp t ps ≡ ps
  from-all t [] h = refl
  from-all t (p ∷ ps) h = let no : is_gt (cmp t p.0) ≡ false = ap is_gt h.0 in rw no refl

  from-left_by : (b : Bool) (p : K × List ℕ) (ps qs xs ys : Pairs K) → xs ≡ ys ++ qs → cond b xs (p ∷ ps ++ qs) ≡ cond b ys (p ∷ ps) ++ qs
  from-left_by true p ps qs xs ys e = e
  from-left_by false p ps qs xs ys e = refl

  from-left : (t : K) (ps qs : Pairs K) → IsBelow cmp t qs → pairs_from cmp t (ps ++ qs) ≡ pairs_from cmp t ps ++ qs
  from-left t [] qs h = from-all t qs h
  from-left t (p ∷ ps) qs h = from-left_by (is_gt (cmp t p.0)) p ps qs _ _ (from-left t ps qs h)

  module _ (t : K) (xs ps ys : Pairs K) (below : IsAbove cmp t xs) (above : IsBelow cmp t ys) where
    pub after-between : after cmp t (xs ++ (ps ++ ys)) ≡ option_or (after cmp t ps) (first_pair ys)
    after-between = after-past t xs (ps ++ ys) below ∙ after-or t ps ys ∙ ap (option_or (after cmp t ps)) (after-all t ys above)

    pub from-between : pairs_from cmp t (xs ++ (ps ++ ys)) ≡ pairs_from cmp t ps ++ ys
    from-between = from-past t xs (ps ++ ys) below ∙ from-left t ps ys above
