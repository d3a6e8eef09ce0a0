-- A chain of parents that has no end comes to one of its places again, and only such a chain.
use Rattle.std.proofs.Common.{◌≡◌, ℕ, zero, suc, ◌+◌, ◌*◌, ◌-◌, ◌^◌, ◌<◌, ◌≤◌, Bool, true, false, List, length, Option, Some, None, refl, sym, ap, ◌∙◌, subst, arith, inl, inr, nat_eq}
use Rattle.std.specs.Prelude.{◌==◌, ◌↔◌}
use Rattle.std.specs.Option.{option_and_then, is_some, unwrap_or}
use Rattle.std.proofs.lemmas.Bool.{cases_lt, eq-eqb, true≢false}
use Rattle.std.proofs.lemmas.List.{get_or_past}
use Rattle.std.proofs.Math.Nat.{suc-mul}
use Rattle.hfs_remains_places.specs.declared.things.Thing.{Thing}
use Rattle.hfs_remains_places.specs.Things.{folder_of}
use Rattle.hfs_remains_places.specs.Folders.{thing_at}
use Rattle.hfs_remains_places.specs.Chains.{ComesAgain, is_endless, place_at, steps, ups_of}
use Rattle.hfs_remains_places.specs.Laws.{AreThings, EndlessChainsTurn}
use Rattle.hfs_remains_places.proofs.Repeats.{Repeats, repeats, without, without-below, without-same}
use Rattle.hfs_remains_places.proofs.ChainLemmas.{length-ups, steps-add, steps-one, steps-zero, up-of}
use Rattle.hfs_remains_places.proofs.PathLemmas.{found-two}

some-is : (o : Option ℕ) → is_some o ≡ true → o ≡ Some (unwrap_or o 0)
some-is (Some x) e = refl
some-is None e = cc

-- ---- the chain goes on

module _ (ups : List (Option ℕ)) (i : ℕ) where
  -- where it ended, it doesn't go on
  past-end : (n more : ℕ) → steps ups n i ≡ None → steps ups (n + more) i ≡ None
  past-end n more none = steps-add ups n more i ∙ ap (option_and_then (steps ups more)) none

  before-end : (n k : ℕ) → k ≤ n → is_some (steps ups n i) ≡ true → is_some (steps ups k i) ≡ true
  before-end n k le some = by (steps ups k i) refl
    where
      by : (o : Option ℕ) → steps ups k i ≡ o → is_some o ≡ true
      by (Some x) e = refl
      by None e =
          let whole : k + (n - k) ≡ n = omega (arith, le) in
          let none : steps ups n i ≡ None = ap (λ (m : ℕ). steps ups m i) (sym whole) ∙ past-end k (n - k) e in
          absurd (true≢false (sym some ∙ ap is_some none))

-- a turn, any number of times
turns : (ups : List (Option ℕ)) (p d : ℕ) → steps ups d p ≡ Some p → (k : ℕ) → steps ups (k * d) p ≡ Some p
turns ups p d turn zero = let none : zero * d ≡ 0 = omega arith in ap (λ (n : ℕ). steps ups n p) none ∙ steps-zero ups p
turns ups p d turn (suc k) =
    ap (λ (n : ℕ). steps ups n p) (suc-mul k d) ∙ steps-add ups (k * d) d p ∙ ap (option_and_then (steps ups d)) (turns ups p d turn k) ∙ turn

-- where it comes to a place again, it goes on as long as one likes
goes-on : (ups : List (Option ℕ)) (i n : ℕ) → ComesAgain ups i → is_some (steps ups n i) ≡ true
goes-on ups i n a =
    let d = a.again - a.first in
    let way : a.first + d ≡ a.again = omega (arith, a.later) in
    let from : steps ups a.again i ≡ steps ups d a.place =
    ap (λ (m : ℕ). steps ups m i) (sym way) ∙ steps-add ups a.first d i ∙ ap (option_and_then (steps ups d)) a.once in
    let turn : steps ups d a.place ≡ Some a.place = sym from ∙ a.twice in
    let far : steps ups (a.first + n * d) i ≡ Some a.place = steps-add ups a.first (n * d) i ∙ ap (option_and_then (steps ups (n * d))) a.once ∙ turns ups a.place d turn n in
    before-end ups i (a.first + n * d) n (far_enough a.first n d (omega (arith, a.later))) (ap is_some far)
  where
    times : (n d : ℕ) → 0 < d → n ≤ n * d
    times zero d some = omega arith
    times (suc n) d some = let fewer : n ≤ n * d = times n d some in omega (arith, suc-mul n d, fewer, some)

    far_enough : (first n d : ℕ) → 0 < d → n ≤ first + n * d
    far_enough first n d some = let enough : n ≤ n * d = times n d some in omega (arith, enough)

-- ---- it comes to a place again

module _ (things : List Thing) (i n m : ℕ) (is : n ≡ suc m) (some : 2 < n) (few : (j : ℕ) → j < length things → (thing_at things j).parent < n) (on : is_some (steps (ups_of things) n i) ≡ true) where
  abbrev at : ℕ → ℕ
  at k = unwrap_or (steps (ups_of things) k i) 0

  at-is : (k : ℕ) → k ≤ n → steps (ups_of things) k i ≡ Some (at k)
  at-is k le = some-is (steps (ups_of things) k i) (before-end (ups_of things) i n k le on)

  next-is : (k : ℕ) → k < n → place_at (ups_of things) (at k) ≡ Some (at (k + 1))
  next-is k lt =
      sym (steps-add (ups_of things) k 1 i ∙ ap (option_and_then (steps (ups_of things) 1)) (at-is k (omega (arith, lt))) ∙ steps-one (ups_of things) (at k))
      ∙ at-is (k + 1) (omega (arith, lt))

  there : (k : ℕ) → k < n → at k < length things
  there k lt =
      elim (cases_lt (at k) (length things)) [
        | inl inside ↦ inside
        | inr past ↦
            let none : place_at (ups_of things) (at k) ≡ None = get_or_past (ups_of things) (at k) None (omega (arith, past, length-ups things)) in
            let no : Some (at (k + 1)) ≡ None = sym (next-is k lt) ∙ none in
            absurd (cc no)
      ]

  abbrev number : ℕ → ℕ
  number k = (thing_at things (at k)).parent

  leads : (k : ℕ) → k < n → folder_of things (number k) ≡ Some (at (k + 1))
  leads k lt = sym (up-of things (at k) (there k lt)) ∙ next-is k lt

  other : (k : ℕ) → k < n → number k ≡ 2 → ⊥
  other k lt two = true≢false (sym (eq-eqb (number k) 2 two) ∙ (found-two things (number k) (at (k + 1)) (leads k lt)).0)

  abbrev value : ℕ → ℕ
  value k = without 2 (number k)

  value-few : (k : ℕ) → k < suc m → value k < m
  value-few k lt =
      let within : k < n = omega (arith, lt, is) in
      without-below 2 (number k) m (omega (arith, few (at k) (there k within), is)) (omega (arith, some, is)) (other k within)

  comes : Repeats (suc m) value → ComesAgain (ups_of things) i
  comes r =
      let early : r.first < n = omega (arith, r.later, r.within, is) in
      let late : r.again < n = omega (arith, r.within, is) in
      let one : number r.first ≡ number r.again = without-same 2 (number r.first) (number r.again) (other r.first early) (other r.again late) r.same in
      let same : Some (at (r.again + 1)) ≡ Some (at (r.first + 1)) = sym (leads r.again late) ∙ sym (ap (folder_of things) one) ∙ leads r.first early in
      record {
        place = at (r.first + 1);
        first = r.first + 1;
        again = r.again + 1;
        later = omega (arith, r.later);
        once = at-is (r.first + 1) (omega (arith, early));
        twice = at-is (r.again + 1) (omega (arith, late)) ∙ same;
      }

  pub comes-again : ComesAgain (ups_of things) i
  comes-again = comes (repeats m value value-few)

endless : (things : List Thing) → AreThings things → (i : ℕ) → is_endless (ups_of things) i ≡ true → ComesAgain (ups_of things) i
unfolding is_endless
endless things are i e = comes-again things i (2 ^ 32) 4294967295 (omega arith) (omega arith) (λ j below. (are.each j below).parent) e

turning : (things : List Thing) (i : ℕ) → ComesAgain (ups_of things) i → is_endless (ups_of things) i ≡ true
unfolding is_endless
turning things i a = goes-on (ups_of things) i (2 ^ 32) a

pub endless-turns : EndlessChainsTurn
endless-turns things are i = (endless things are i, turning things i)
