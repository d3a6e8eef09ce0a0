-- Index keys in order, where the parts under them are cut, taken away or added.
use Rattle.std.proofs.Common.{◌≡◌, ℕ, ◌<◌, false, List, [], ◌∷◌, ◌++◌, length, map, refl, ap, arith}
use Rattle.std.specs.Ordering.{is_gt, ordering_reverse}
use Rattle.std.specs.declared.cmp.Ordering.{Ordering}
use Rattle.std.specs.declared.cmp.Ordering.TheVariants.{Less, Equal, Greater}
use Rattle.std.specs.Cmp.{IsTotalOrder}
use Rattle.std.specs.List.{flat_map}
use Rattle.hfs_btree.specs.Pairs.{Order, Pairs, Rises, IsAtMost, IsAbove}
use Rattle.hfs_fields.specs.Each.{Each}
use Rattle.hfs_btree.specs.Sound.{ArePartsInOrder}
use Rattle.hfs_fields.proofs.ElementLemmas.{each-append, each-left, each-right, each-mono}
use Rattle.hfs_btree.proofs.LookupLemmas.{lt-le, le-lt}

module _ {K : Type 0} (cmp : Order K) where
  -- a change behind a front of parts
  pub parts-front : (before : Pairs K) (front rest new : List (K × Pairs K)) → ArePartsInOrder cmp before (front ++ rest)
      → ((last : Pairs K) → ArePartsInOrder cmp last rest → ArePartsInOrder cmp last new) → ArePartsInOrder cmp before (front ++ new)
  parts-front before [] rest new h f = f before h
  parts-front before (part ∷ front) rest new h f = (h.0, h.1, parts-front part.1 front rest new h.2 f)

  -- the parts behind are right behind the last pairs of a part alone
  parts-behind : (first second : Pairs K) (rest : List (K × Pairs K)) → ArePartsInOrder cmp (first ++ second) rest → ArePartsInOrder cmp second rest
  parts-behind first second [] h = tt
  parts-behind first second (part ∷ rest) h = (each-right (λ p. cmp p.0 part.0 ≡ Less) first second h.0, h.1, h.2)

  -- a part is cut in two
  pub parts-cut : (before : Pairs K) (front rest : List (K × Pairs K)) (key sep : K) (first second : Pairs K) → ArePartsInOrder cmp before (front ++ (key, first ++ second) ∷ rest)
      → IsAbove cmp sep first → IsAtMost cmp sep second → ArePartsInOrder cmp before (front ++ (key, first) ∷ (sep, second) ∷ rest)
  parts-cut before front rest key sep first second h mid up =
      parts-front before front ((key, first ++ second) ∷ rest) ((key, first) ∷ (sep, second) ∷ rest) h
      (λ last tail. (tail.0, each-left (λ p. is_gt (cmp key p.0) ≡ false) first second tail.1, (mid, up, parts-behind first second rest tail.2)))

  pub parts-left : (before : Pairs K) (front rest : List (K × Pairs K)) → ArePartsInOrder cmp before (front ++ rest) → ArePartsInOrder cmp before front
  parts-left before [] rest h = tt
  parts-left before (part ∷ front) rest h = (h.0, h.1, parts-left part.1 front rest h.2)

  parts-first : (before : Pairs K) (rest : List (K × Pairs K)) → ArePartsInOrder cmp before rest → ArePartsInOrder cmp [] rest
  parts-first before [] h = tt
  parts-first before (part ∷ rest) h = (tt, h.1, h.2)

  pub parts-right : (before : Pairs K) (front rest : List (K × Pairs K)) → ArePartsInOrder cmp before (front ++ rest) → ArePartsInOrder cmp [] rest
  parts-right before [] rest h = parts-first before rest h
  parts-right before (part ∷ front) rest h = parts-right part.1 front rest h.2

  -- ---- rising pairs

  pub rises-left : (ps qs : Pairs K) → Rises cmp (ps ++ qs) → Rises cmp ps
  rises-left [] qs h = tt
  rises-left (p ∷ ps) qs h = (each-left (λ q. cmp p.0 q.0 ≡ Less) ps qs h.0, rises-left ps qs h.1)

  pub rises-right : (ps qs : Pairs K) → Rises cmp (ps ++ qs) → Rises cmp qs
  rises-right [] qs h = h
  rises-right (p ∷ ps) qs h = rises-right ps qs h.1

  -- the pairs before one are below it
  pub rises-before : (ps : Pairs K) (p : K × List ℕ) (qs : Pairs K) → Rises cmp (ps ++ p ∷ qs) → IsAbove cmp p.0 ps
  rises-before [] p qs h = tt
  rises-before (r ∷ ps) p qs h = ((each-right (λ q. cmp r.0 q.0 ≡ Less) ps (p ∷ qs) h.0).0, rises-before ps p qs h.1)

module _ {K : Type 0} (cmp : Order K) (total : IsTotalOrder cmp) where
  equal_by : (o : Ordering) → o ≡ ordering_reverse o → o ≡ Equal
  equal_by Less e = cc
  equal_by Equal e = refl
  equal_by Greater e = cc

  pub equal-key : (x : K) → cmp x x ≡ Equal
  equal-key x = equal_by (cmp x x) (total.antisymm x x)

  pub same-key : (x : K) → is_gt (cmp x x) ≡ false
  same-key x = ap is_gt (equal-key x)

  less-not-above : (x y : K) → cmp x y ≡ Less → is_gt (cmp x y) ≡ false
  less-not-above x y e = ap is_gt e

  -- the first of rising pairs is at most all of them
  pub rises-least : (p : K × List ℕ) (qs : Pairs K) → Rises cmp (p ∷ qs) → IsAtMost cmp p.0 (p ∷ qs)
  rises-least p qs h = (same-key p.0, each-mono (λ q. cmp p.0 q.0 ≡ Less) (λ q. is_gt (cmp p.0 q.0) ≡ false) qs (λ q e. less-not-above p.0 q.0 e) h.0)

  -- ---- the parts of one node

  module _ (key : List ℕ → K) (own : List ℕ → Pairs K) where
    abbrev pub keyed : Pairs K → List (List ℕ) → Type 0
    keyed before es = ArePartsInOrder cmp before (map (λ e. (key e, own e)) es)

    abbrev pub some : List (List ℕ) → Type 0
    some es = Each (λ e. 0 < length (own e)) es

    -- pairs between: x is below t, which is at most all of some pairs, which are below u
    between : (t u : K) (ps qs : Pairs K) → 0 < length qs → IsAbove cmp t ps → IsAtMost cmp t qs → IsAbove cmp u qs → IsAbove cmp u ps
    between t u ps [] more h le k = absurd (omega arith)
    between t u ps (q ∷ qs) more h le k =
        each-mono (λ p. cmp p.0 t ≡ Less) (λ p. cmp p.0 u ≡ Less) ps (λ p e. total.trans p.0 q.0 u (lt-le cmp total p.0 t q.0 e le.0) k.0) h

    -- a key is above all pairs of the parts before its own
    pub above-front : (before : Pairs K) (es : List (List ℕ)) (e : List ℕ) (rest : List (List ℕ)) → keyed before (es ++ e ∷ rest) → some es → IsAbove cmp (key e) (flat_map own es)
    above-front before [] e rest h nonempty = tt
    above-front before (a ∷ []) e rest h nonempty = each-append (λ p. cmp p.0 (key e) ≡ Less) (own a) [] h.2.0 tt
    above-front before (a ∷ b ∷ es) e rest h nonempty =
        let later = above-front (own a) (b ∷ es) e rest h.2 nonempty.1 in
        let here = between (key b) (key e) (own a) (own b) nonempty.1.0 h.2.0 h.2.1 (each-left (λ p. cmp p.0 (key e) ≡ Less) (own b) (flat_map own es) later) in
        each-append (λ p. cmp p.0 (key e) ≡ Less) (own a) (flat_map own (b ∷ es)) here later

    -- a key that is at most some pairs, and below the key of the parts behind
    later-most : (t : K) (before : Pairs K) (es : List (List ℕ)) → 0 < length before → IsAtMost cmp t before → keyed before es → some es → IsAtMost cmp t (flat_map own es)
    later-most t before [] more le h nonempty = tt
    later-most t [] (e ∷ es) more le h nonempty = absurd (omega arith)
    later-most t (p ∷ before) (e ∷ es) more le h nonempty =
        let less : cmp t (key e) ≡ Less = le-lt cmp total t p.0 (key e) le.0 h.0.0 in
        let here : IsAtMost cmp t (own e) = each-mono (λ q. is_gt (cmp (key e) q.0) ≡ false) (λ q. is_gt (cmp t q.0) ≡ false) (own e) (λ q f. less-not-above t q.0 (lt-le cmp total t (key e) q.0 less f)) h.1 in
        each-append (λ q. is_gt (cmp t q.0) ≡ false) (own e) (flat_map own es) here (later-most t (own e) es nonempty.0 here h.2 nonempty.1)

    -- the first key is at most all pairs
    pub first-most : (before : Pairs K) (e : List ℕ) (es : List (List ℕ)) → keyed before (e ∷ es) → some (e ∷ es) → IsAtMost cmp (key e) (flat_map own (e ∷ es))
    first-most before e es h nonempty =
        each-append (λ q. is_gt (cmp (key e) q.0) ≡ false) (own e) (flat_map own es) h.1 (later-most (key e) (own e) es nonempty.0 h.1 h.2 nonempty.1)
