-- A pair that is put among rising pairs.
use Rattle.std.proofs.Common.{◌≡◌, ℕ, zero, suc, ◌+◌, ◌<◌, ◌≤◌, Bool, true, false, cond, List, [], ◌∷◌, ◌++◌, length, map, take, drop, Option, None, refl, sym, ap, ◌∙◌, subst, arith, inl, inr, length-append}
use Rattle.std.specs.Ordering.{is_eq, is_gt}
use Rattle.std.specs.declared.cmp.Ordering.{Ordering}
use Rattle.std.specs.declared.cmp.Ordering.TheVariants.{Less, Equal, Greater}
use Rattle.std.specs.Cmp.{IsTotalOrder}
use Rattle.std.proofs.lemmas.Bool.{cases_Bool, cond-true, cond-false}
use Rattle.std.proofs.lemmas.List.{length-drop}
use Rattle.hfs_btree.specs.Pairs.{Order, Pairs, Rises, IsAbove, lookup, pairs_from}
use Rattle.hfs_btree.proofs.PairLemmas.{IsBelow}
use Rattle.hfs_fields.specs.Each.{Each}
use Rattle.hfs_fields.proofs.ElementLemmas.{each-mono}
use Rattle.hfs_btree.proofs.LookupLemmas.{flipped, above-below}
use Rattle.hfs_btree_edits.specs.Edits.{with_pair}

module _ {K : Type 0} (cmp : Order K) (total : IsTotalOrder cmp) (key : K) (body : List ℕ) where
  abbrev pub put : Pairs K → Pairs K
  put ps = with_pair cmp key body ps

  -- what is below the key stays in front
  pub put-past : (ps qs : Pairs K) → IsAbove cmp key ps → put (ps ++ qs) ≡ ps ++ put qs
  put-past [] qs h = refl
  put-past (p ∷ ps) qs h =
      cond-true (is_gt (cmp key p.0)) _ _ (ap is_gt (flipped cmp total p.0 key Less h.0)) ∙ ap (λ (rs : Pairs K). p ∷ rs) (put-past ps qs h.1)

  pushed : (gt : Bool) (p : K × List ℕ) (ps qs : Pairs K) → cond gt (p ∷ (put ps ++ qs)) ((key, body) ∷ p ∷ (ps ++ qs)) ≡ cond gt (p ∷ put ps) ((key, body) ∷ p ∷ ps) ++ qs
  pushed true p ps qs = refl
  pushed false p ps qs = refl

  -- what is above it stays behind
  pub put-before : (ps qs : Pairs K) → IsBelow cmp key qs → put (ps ++ qs) ≡ put ps ++ qs
  put-before [] [] h = refl
  put-before [] (q ∷ qs) h = cond-false (is_gt (cmp key q.0)) _ _ (ap is_gt h.0)
  put-before (p ∷ ps) qs h =
      ap (λ (r : Pairs K). cond (is_gt (cmp key p.0)) (p ∷ r) ((key, body) ∷ p ∷ (ps ++ qs))) (put-before ps qs h) ∙ pushed (is_gt (cmp key p.0)) p ps qs

  -- what holds of the pairs and of the new one holds of all
  each-put_by : (P : K × List ℕ → Type 0) (gt : Bool) (p : K × List ℕ) (ps rest : Pairs K) → P p → P (key, body) → Each P ps → Each P rest → Each P (cond gt (p ∷ rest) ((key, body) ∷ p ∷ ps))
  each-put_by P true p ps rest a b c d = (a, d)
  each-put_by P false p ps rest a b c d = (b, (a, c))

  pub each-put : (P : K × List ℕ → Type 0) (ps : Pairs K) → P (key, body) → Each P ps → Each P (put ps)
  each-put P [] here h = (here, tt)
  each-put P (p ∷ ps) here h = each-put_by P (is_gt (cmp key p.0)) p ps (put ps) h.0 here h.1 (each-put P ps here h.1)

  less-by : (o : Ordering) → is_gt o ≡ false → is_eq o ≡ false → o ≡ Less
  less-by Less a b = refl
  less-by Equal a b = cc
  less-by Greater a b = cc

  absent-here : (b : Bool) (x : List ℕ) (o : Option (List ℕ)) → cond b (Rattle.std.proofs.Common.Some x) o ≡ None → (b ≡ false) × (o ≡ None)
  absent-here true x o h = cc
  absent-here false x o h = (refl, h)

  -- rising pairs still rise
  pub rises-put : (ps : Pairs K) → Rises cmp ps → lookup cmp key ps ≡ None → Rises cmp (put ps)
  rises-put [] rises none = (tt, tt)
  rises-put (p ∷ ps) rises none =
      let other = absent-here (is_eq (cmp key p.0)) p.1 (lookup cmp key ps) none in
      let R : Pairs K → Type 0 = λ qs. Rises cmp qs in
      elim (cases_Bool (is_gt (cmp key p.0))) [
        | inl gt ↦ subst R (sym (cond-true (is_gt (cmp key p.0)) _ _ gt))
            (each-put (λ q. cmp p.0 q.0 ≡ Less) ps (above-below cmp total key p.0 gt) rises.0, rises-put ps rises.1 other.1)
        | inr not_gt ↦
            (let less : cmp key p.0 ≡ Less = less-by (cmp key p.0) not_gt other.0 in
            subst R (sym (cond-false (is_gt (cmp key p.0)) _ _ not_gt))
            ((less, each-mono (λ q. cmp p.0 q.0 ≡ Less) (λ q. cmp key q.0 ≡ Less) ps (λ q e. total.trans key p.0 q.0 less e) rises.0), rises))
      ]

  pub length-put : (ps : Pairs K) → length (put ps) ≡ length ps + 1
  length-put [] = refl
  length-put (p ∷ ps) =
      elim (cases_Bool (is_gt (cmp key p.0))) [
        | inl gt ↦ ap (λ (qs : Pairs K). length qs) (cond-true (is_gt (cmp key p.0)) (p ∷ put ps) ((key, body) ∷ p ∷ ps) gt) ∙ (let rest = length-put ps in omega arith)
        | inr not_gt ↦ ap (λ (qs : Pairs K). length qs) (cond-false (is_gt (cmp key p.0)) (p ∷ put ps) ((key, body) ∷ p ∷ ps) not_gt) ∙ omega arith
      ]

  -- ---- the place where a leaf has it

  from-short : (ps : Pairs K) → length (pairs_from cmp key ps) ≤ length ps
  from-short [] = omega arith
  from-short (p ∷ ps) =
      elim (cases_Bool (is_gt (cmp key p.0))) [
        | inl gt ↦ (let e = ap (λ (qs : Pairs K). length qs) (cond-true (is_gt (cmp key p.0)) (pairs_from cmp key ps) (p ∷ ps) gt) in let rest = from-short ps in omega arith)
        | inr not_gt ↦ (let e = ap (λ (qs : Pairs K). length qs) (cond-false (is_gt (cmp key p.0)) (pairs_from cmp key ps) (p ∷ ps) not_gt) in omega arith)
      ]

  pub put-at : (ps : Pairs K) (place : ℕ) → place ≤ length ps → drop place ps ≡ pairs_from cmp key ps → put ps ≡ take place ps ++ (key, body) ∷ drop place ps
  put-at [] zero le e = refl
  put-at [] (suc i) le e = absurd (omega arith)
  put-at (p ∷ ps) zero le e =
      elim (cases_Bool (is_gt (cmp key p.0))) [
        | inl gt ↦ absurd (let same = ap (λ (qs : Pairs K). length qs) (e ∙ cond-true (is_gt (cmp key p.0)) (pairs_from cmp key ps) (p ∷ ps) gt) in omega (arith, from-short ps))
        | inr not_gt ↦ cond-false (is_gt (cmp key p.0)) _ _ not_gt
      ]
  put-at (p ∷ ps) (suc i) le e =
      elim (cases_Bool (is_gt (cmp key p.0))) [
        | inl gt ↦ cond-true (is_gt (cmp key p.0)) _ _ gt
            ∙ ap (λ (qs : Pairs K). p ∷ qs) (put-at ps i (omega arith) (e ∙ cond-true (is_gt (cmp key p.0)) (pairs_from cmp key ps) (p ∷ ps) gt))
        | inr not_gt ↦ absurd (let same = ap (λ (qs : Pairs K). length qs) (e ∙ cond-false (is_gt (cmp key p.0)) (pairs_from cmp key ps) (p ∷ ps) not_gt) in omega (arith, length-drop i ps))
      ]
