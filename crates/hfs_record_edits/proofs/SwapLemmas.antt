-- Lemmas about the definitions of specs/Swaps.antt.
use Rattle.std.proofs.Common.{◌≡◌, ℕ, ◌+◌, ◌≤◌, Bool, true, false, cond, List, [], ◌∷◌, ◌++◌, count_by, refl, sym, ap, ◌∙◌, subst, arith, Option, Some, None}
use Rattle.std.specs.List.{find, sum_by}
use Rattle.std.specs.Option.{option_or}
use Rattle.std.proofs.lemmas.List.Sums.{sum_by-append, sum_by-cons}
use Rattle.hfs_fields.specs.Each.{Each}
use Rattle.hfs_fields.proofs.ElementLemmas.{each-append, each-left, each-right}
use Rattle.hfs_record_edits.specs.Swaps.{list_of, Swaps, one_if}

-- whether it is there and passes
abbrev pub passes : {X : Type 0} → (X → Bool) → Option X → Bool
passes p None = false
passes p (Some x) = p x

-- it, where it passes
abbrev pub only : {X : Type 0} → (X → Bool) → Option X → Option X
only p None = None
only p (Some x) = cond (p x) (Some x) None

-- what a search finds afterwards: what came, where it passes, else what it found, unless that is what went
abbrev pub found_after : {X : Type 0} → (X → Bool) → Option X → Option X → Option X → Option X
found_after p went come found = option_or (only p come) (cond (passes p went) None found)

module _ {X : Type 0} (p : X → Bool) where
  count_append : (xs ys : List X) → count_by p (xs ++ ys) ≡ count_by p xs + count_by p ys
  count_append xs ys = sum_by-append (λ (x : X). cond (p x) 1 0) xs ys

  count_cons : (x : X) (xs : List X) → count_by p (x ∷ xs) ≡ one_if (p x) + count_by p xs
  count_cons x xs = sum_by-cons (λ (y : X). cond (p y) 1 0) x xs

  count_list_of : (o : Option X) → count_by p (list_of o) ≡ one_if (passes p o)
  count_list_of None = refl
  count_list_of (Some x) = omega (arith, count_cons x [])

  count_parts : (xs ys : List X) (o : Option X) → count_by p (xs ++ (list_of o ++ ys)) ≡ count_by p xs + (one_if (passes p o) + count_by p ys)
  count_parts xs ys o = omega (arith, count_append xs (list_of o ++ ys), count_append (list_of o) ys, count_list_of o)

  -- as many pass, but for the two
  pub swapped_count : (went come : Option X) (old new : List X) → Swaps went come old new
      → count_by p new + one_if (passes p went) ≡ count_by p old + one_if (passes p come)
  swapped_count went come old new s =
      omega (arith, ap (count_by p) s.was, ap (count_by p) s.is, count_parts s.before s.behind went, count_parts s.before s.behind come)

  one_of : (b : Bool) → b ≡ true → ◌≡◌ {A = ℕ} (one_if b) 1
  one_of b e = ap one_if e

  none_of : (b : Bool) → b ≡ false → ◌≡◌ {A = ℕ} (one_if b) 0
  none_of b e = ap one_if e

  -- where none passes, none is found
  pub none_found : (xs : List X) → count_by p xs ≡ 0 → find p xs ≡ None
  none_found [] e = refl
  none_found (x ∷ xs) e = elim (p x) as (λ (b : Bool). p x ≡ b → cond b (Some x) (find p xs) ≡ None) [
    | true ↦ λ h. absurd (omega (arith, count_cons x xs, one_of (p x) h, e))
    | false ↦ λ h. none_found xs (omega (arith, count_cons x xs, none_of (p x) h, e))
  ] refl

  -- what doesn't pass is passed over
  skipped : (xs ys : List X) (o : Option X) → passes p o ≡ false → find p (xs ++ (list_of o ++ ys)) ≡ find p (xs ++ ys)
  skipped [] ys None h = refl
  skipped [] ys (Some x) h = ap (λ b. cond b (Some x) (find p ys)) h
  skipped (x ∷ xs) ys o h = ap (cond (p x) (Some x)) (skipped xs ys o h)

  -- one that passes is found where no other does
  pub lone_found : (xs ys : List X) (x : X) → count_by p (xs ++ (x ∷ ys)) ≤ 1 → p x ≡ true → find p (xs ++ (x ∷ ys)) ≡ Some x
  lone_found [] ys x le h = ap (λ b. cond b (Some x) (find p ys)) h
  lone_found (y ∷ xs) ys x le h = elim (p y) as (λ (b : Bool). p y ≡ b → cond b (Some y) (find p (xs ++ (x ∷ ys))) ≡ Some x) [
    | true ↦ λ e. absurd (omega (arith, le, count_cons y (xs ++ (x ∷ ys)), one_of (p y) e, count_append xs (x ∷ ys), count_cons x ys, one_of (p x) h))
    | false ↦ λ e. lone_found xs ys x (omega (arith, le, count_cons y (xs ++ (x ∷ ys)))) h
  ] refl

  others_none : (xs ys : List X) (o : Option X) → count_by p (xs ++ (list_of o ++ ys)) ≤ 1 → passes p o ≡ true → find p (xs ++ ys) ≡ None
  others_none xs ys o le h = none_found (xs ++ ys) (omega (arith, le, count_parts xs ys o, one_of (passes p o) h, count_append xs ys))

  come_found : (xs ys : List X) (o : Option X) → count_by p (xs ++ (list_of o ++ ys)) ≤ 1 → passes p o ≡ true → find p (xs ++ (list_of o ++ ys)) ≡ only p o
  come_found xs ys None le h = absurd (cc)
  come_found xs ys (Some x) le h = lone_found xs ys x le h ∙ sym (ap (λ b. cond b (Some x) None) h)

  only_none : (o : Option X) → passes p o ≡ false → only p o ≡ None
  only_none None h = refl
  only_none (Some x) h = ap (λ b. cond b (Some x) None) h

  only_some : (o found : Option X) → passes p o ≡ true → option_or (only p o) found ≡ only p o
  only_some None found h = absurd (cc)
  only_some (Some x) found h = ap (λ b. option_or (cond b (Some x) None) found) h ∙ sym (ap (λ b. cond b (Some x) None) h)

  old_by : (went : Option X) (xs ys : List X) (b : Bool) → passes p went ≡ b → count_by p (xs ++ (list_of went ++ ys)) ≤ 1
      → find p (xs ++ ys) ≡ cond b None (find p (xs ++ (list_of went ++ ys)))
  old_by went xs ys true h le = others_none xs ys went le h
  old_by went xs ys false h le = sym (skipped xs ys went h)

  new_by : (went come : Option X) (xs ys : List X) (b : Bool) → passes p come ≡ b
      → count_by p (xs ++ (list_of went ++ ys)) ≤ 1 → count_by p (xs ++ (list_of come ++ ys)) ≤ 1
      → find p (xs ++ (list_of come ++ ys)) ≡ found_after p went come (find p (xs ++ (list_of went ++ ys)))
  new_by went come xs ys true h old new = come_found xs ys come new h ∙ sym (only_some come _ h)
  new_by went come xs ys false h old new =
      skipped xs ys come h ∙ old_by went xs ys (passes p went) refl old
      ∙ sym (ap (λ o. option_or o (cond (passes p went) None (find p (xs ++ (list_of went ++ ys))))) (only_none come h))

  -- where at most one passes, before and afterwards
  pub swapped_find : (went come : Option X) (old new : List X) → Swaps went come old new → count_by p old ≤ 1 → count_by p new ≤ 1
      → find p new ≡ found_after p went come (find p old)
  swapped_find went come old new s le_old le_new =
      ap (find p) s.is
      ∙ new_by went come s.before s.behind (passes p come) refl (omega (arith, le_old, ap (count_by p) s.was)) (omega (arith, le_new, ap (count_by p) s.is))
      ∙ ap (λ l. found_after p went come (find p l)) (sym s.was)

-- the number of an element, 0 where there is none
abbrev pub number_of : {X : Type 0} → (X → ℕ) → Option X → ℕ
number_of f None = 0
number_of f (Some x) = f x

module _ {X : Type 0} (f : X → ℕ) where
  sum_list_of : (o : Option X) → sum_by f (list_of o) ≡ number_of f o
  sum_list_of None = refl
  sum_list_of (Some x) = omega (arith, sum_by-cons f x [])

  sum_parts : (xs ys : List X) (o : Option X) → sum_by f (xs ++ (list_of o ++ ys)) ≡ sum_by f xs + (number_of f o + sum_by f ys)
  sum_parts xs ys o = omega (arith, sum_by-append f xs (list_of o ++ ys), sum_by-append f (list_of o) ys, sum_list_of o)

  -- the sums are the same, but for the two
  pub swapped_sum : (went come : Option X) (old new : List X) → Swaps went come old new → sum_by f new + number_of f went ≡ sum_by f old + number_of f come
  swapped_sum went come old new s =
      omega (arith, ap (sum_by f) s.was, ap (sum_by f) s.is, sum_parts s.before s.behind went, sum_parts s.before s.behind come)

module _ {X : Type 0} (P : X → Type 0) where
  -- what holds of each, and of what came, holds of each afterwards
  pub swapped_each : (went : Option X) (come : Option X) (old new : List X) → Swaps went come old new → Each P old → Each P (list_of come) → Each P new
  swapped_each went come old new s each here =
      let parts : Each P (s.before ++ (list_of went ++ s.behind)) = subst (Each P) s.was each in
      let back : Each P s.behind = each-right P (list_of went) s.behind (each-right P s.before (list_of went ++ s.behind) parts) in
      subst (Each P) (sym s.is) (each-append P s.before (list_of come ++ s.behind) (each-left P s.before (list_of went ++ s.behind) parts) (each-append P (list_of come) s.behind here back))

-- one more element in front
pub deeper : {X : Type 0} (x : X) (went come : Option X) (old new : List X) → Swaps went come old new → Swaps went come (x ∷ old) (x ∷ new)
deeper x went come old new s = record { before = x ∷ s.before; behind = s.behind; was = ap (λ l. x ∷ l) s.was; is = ap (λ l. x ∷ l) s.is }

-- ---- one that is set, and then another that comes

first_of : {X : Type 0} (x y : X) (xs ys : List X) → x ∷ xs ≡ y ∷ ys → x ≡ y
first_of x y xs ys e = cc

rest_of : {X : Type 0} (x y : X) (xs ys : List X) → x ∷ xs ≡ y ∷ ys → xs ≡ ys
rest_of x y xs ys e = cc

module _ {X : Type 0} (r s f : X) where
  -- one came, and then another one stands in the place of a third
  abbrev came_then_set : List X → List X → Type 0
  came_then_set old new = (middle : List X) × Swaps None (Some f) old middle × Swaps (Some r) (Some s) middle new

  by_places : (a b c d : List X) → a ++ (s ∷ b) ≡ c ++ d → came_then_set (a ++ (r ∷ b)) (c ++ (f ∷ d))
  by_places a b [] d e = (f ∷ (a ++ (r ∷ b)), record { before = []; behind = a ++ (r ∷ b); was = refl; is = refl }, record { before = f ∷ a; behind = b; was = refl; is = ap (λ l. f ∷ l) (sym e) })
  by_places [] b (x ∷ c) d e = (
    r ∷ (c ++ (f ∷ d)),
    record { before = r ∷ c; behind = d; was = ap (λ l. r ∷ l) (rest_of s x b (c ++ d) e); is = refl },
    record { before = []; behind = c ++ (f ∷ d); was = refl; is = ap (λ y. y ∷ (c ++ (f ∷ d))) (sym (first_of s x b (c ++ d) e)) },
  )
  by_places (y ∷ a) b (x ∷ c) d e =
      let rest = by_places a b c d (rest_of y x (a ++ (s ∷ b)) (c ++ d) e) in (
        y ∷ rest.0,
        deeper y None (Some f) (a ++ (r ∷ b)) rest.0 rest.1,
        subst (λ (z : X). Swaps (Some r) (Some s) (y ∷ rest.0) (z ∷ (c ++ (f ∷ d)))) (first_of y x (a ++ (s ∷ b)) (c ++ d) e) (deeper y (Some r) (Some s) rest.0 (c ++ (f ∷ d)) rest.2),
      )

  -- where one was set before another came, the other may as well have come first
  pub set_then_came : (old first new : List X) → Swaps (Some r) (Some s) old first → Swaps None (Some f) first new → (middle : List X) × Swaps None (Some f) old middle × Swaps (Some r) (Some s) middle new
  set_then_came old first new set came =
      subst (λ (p : List X × List X). (middle : List X) × Swaps None (Some f) p.0 middle × Swaps (Some r) (Some s) middle p.1)
      (λ i. (sym set.was i, sym came.is i))
      (by_places set.before set.behind came.before came.behind (sym set.is ∙ came.was))
