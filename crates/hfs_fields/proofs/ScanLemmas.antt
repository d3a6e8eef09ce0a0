-- Scans for the first element that fails.
use Rattle.std.proofs.Common.{◌≡◌, ℕ, zero, suc, ◌+◌, ◌<◌, Bool, true, false, cond, ◌&&◌, List, [], ◌∷◌, ◌++◌, length, take, get_or, refl, sym, ◌∙◌, ap, subst, arith, append_assoc, Some, None}
use Rattle.std.specs.Prelude.{⊤, ◌↔◌}
use Rattle.std.specs.Bool.{Decides}
use Rattle.std.specs.List.{list_all}
use Rattle.std.proofs.lemmas.List.{append-nil, length-append}
use Rattle.std.proofs.lemmas.Option.{none-some, same_Some}
use Rattle.std.proofs.lemmas.Bool.{and_parts, and_from}
use Rattle.hfs_fields.specs.Each.{Each}
use Rattle.hfs_fields.proofs.ElementLemmas.{each-left, each-right, each-append}
use Rattle.hfs_fields.specs.First.{first_failing, EachPasses, IsFirst}

-- each element passes, with those before it
abbrev pub Passes : {X : Type 0} → (List X → X → Bool) → List X → List X → Type 0
Passes test before [] = ⊤
Passes test before (x ∷ xs) = (test before x ≡ true) × Passes test (before ++ x ∷ []) xs

module _ {X : Type 0} (test : List X → X → Bool) where
  pub passes_from_none : (before xs : List X) → first_failing test before xs ≡ None → Passes test before xs
  passes_from_none before [] is = tt
  passes_from_none before (x ∷ xs) is = elim (test before x) as (λ b. test before x ≡ b → cond b (first_failing test (before ++ x ∷ []) xs) (Some (length before)) ≡ None → (test before x ≡ true) × Passes test (before ++ x ∷ []) xs) [
    | true ↦ λ e none. (e, passes_from_none (before ++ x ∷ []) xs none)
    | false ↦ λ e some. absurd (none-some _ (sym some))
  ] refl is

  pub none_from_passes : (before xs : List X) → Passes test before xs → first_failing test before xs ≡ None
  none_from_passes before [] h = refl
  none_from_passes before (x ∷ xs) h =
      ap (λ b. cond b (first_failing test (before ++ x ∷ []) xs) (Some (length before))) h.0 ∙ none_from_passes (before ++ x ∷ []) xs h.1

  -- ---- by places

  here : (before xs : List X) (x : X) (b : Bool) → test before x ≡ b → test (before ++ []) x ≡ b
  here before xs x b e = ap (λ l. test l x) (append-nil before) ∙ e

  there : (before : List X) (x : X) (rest : List X) (y : X) (b : Bool) → test ((before ++ x ∷ []) ++ rest) y ≡ b → test (before ++ x ∷ rest) y ≡ b
  there before x rest y b e = ap (λ l. test l y) (sym (append_assoc before (x ∷ []) rest)) ∙ e

  pub passes_at : (before xs : List X) (i : ℕ) (d : X) → Passes test before xs → i < length xs → test (before ++ take i xs) (get_or xs i d) ≡ true
  passes_at before [] i d h lt = absurd (omega arith)
  passes_at before (x ∷ xs) zero d h lt = here before xs x true h.0
  passes_at before (x ∷ xs) (suc i) d h lt = there before x (take i xs) (get_or xs i d) true (passes_at (before ++ x ∷ []) xs i d h.1 (omega arith))

  pub passes_from_places : (before xs : List X) → ((i : ℕ) (d : X) → i < length xs → test (before ++ take i xs) (get_or xs i d) ≡ true) → Passes test before xs
  passes_from_places before [] h = tt
  passes_from_places before (x ∷ xs) h = (
    sym (ap (λ l. test l x) (append-nil before)) ∙ h 0 x (omega arith),
    passes_from_places (before ++ x ∷ []) xs (λ i d lt. ap (λ l. test l (get_or xs i d)) (append_assoc before (x ∷ []) (take i xs)) ∙ h (suc i) d (omega arith)),
  )

  pub scan_is_whole : (xs : List X) → (first_failing test [] xs ≡ None) ↔ EachPasses test xs
  scan_is_whole xs = (
    λ (is : first_failing test [] xs ≡ None) (i : ℕ) (lt : i < length xs) (d : X). passes_at [] xs i d (passes_from_none [] xs is) lt,
    λ (h : EachPasses test xs). none_from_passes [] xs (passes_from_places [] xs (λ i d lt. h i lt d)),
  )

  pub record FoundAt (before xs : List X) (n : ℕ) : Type 0 where
    pub i : ℕ
    pub place : n ≡ length before + i
    pub within : i < length xs
    pub fails : (d : X) → test (before ++ take i xs) (get_or xs i d) ≡ false
    pub earlier : (k : ℕ) (d : X) → k < i → test (before ++ take k xs) (get_or xs k d) ≡ true

  later_found : (before : List X) (x : X) (xs : List X) (n : ℕ) → test before x ≡ true → FoundAt (before ++ x ∷ []) xs n → FoundAt before (x ∷ xs) n
  later_found before x xs n e found = record {
    i = suc found.i;
    place = omega (arith, found.place, length-append before (x ∷ []));
    within = omega (arith, found.within);
    fails = λ d. there before x (take found.i xs) (get_or xs found.i d) false (found.fails d);
    earlier = before_it;
  }
    where
      before_it : (k : ℕ) (d : X) → k < suc found.i → test (before ++ take k (x ∷ xs)) (get_or (x ∷ xs) k d) ≡ true
      before_it zero d lt = here before xs x true e
      before_it (suc k) d lt = there before x (take k xs) (get_or xs k d) true (found.earlier k d (omega arith))

  pub found_at : (before xs : List X) (n : ℕ) → first_failing test before xs ≡ Some n → FoundAt before xs n
  found_at before [] n is = absurd (none-some n is)
  found_at before (x ∷ xs) n is = elim (test before x) as (λ b. test before x ≡ b → cond b (first_failing test (before ++ x ∷ []) xs) (Some (length before)) ≡ Some n → FoundAt before (x ∷ xs) n) [
    | true ↦ λ e some. later_found before x xs n e (found_at (before ++ x ∷ []) xs n some)
    | false ↦ λ e some. record {
      i = 0;
      place = omega (arith, same_Some (length before) n some);
      within = omega arith;
      fails = λ d. here before xs x false e;
      earlier = λ k d lt. absurd (omega arith);
    }
  ] refl is

  pub scan_is_first : (xs : List X) (i : ℕ) → first_failing test [] xs ≡ Some i → IsFirst test xs i
  scan_is_first xs i is =
      let found = found_at [] xs i is in
      let at : found.i ≡ i = omega (arith, found.place) in
      subst (λ (j : ℕ). IsFirst test xs j) at (record { within = found.within; fails = found.fails; before = λ k lt d. found.earlier k d lt })

-- ---- a test of two parts

module _ {X : Type 0} (test first : List X → X → Bool) (P : X → Type 0)
    (split : (before : List X) (x : X) → Decides (test before x) ((first before x ≡ true) × P x)) where
  pub both_from_passes : (before xs : List X) → Passes test before xs → Passes first before xs × Each P xs
  both_from_passes before [] h = (tt, tt)
  both_from_passes before (x ∷ xs) h =
      let now = (split before x).0 h.0 in
      let rest = both_from_passes (before ++ x ∷ []) xs h.1 in
      ((now.0, rest.0), (now.1, rest.1))

  pub passes_from_both : (before xs : List X) → Passes first before xs → Each P xs → Passes test before xs
  passes_from_both before [] h k = tt
  passes_from_both before (x ∷ xs) h k = ((split before x).1 (h.0, k.0), passes_from_both (before ++ x ∷ []) xs h.1 k.1)

-- ---- a test of one record

module _ {X : Type 0} (test : X → Bool) (P : X → Type 0) (decides : (x : X) → Decides (test x) (P x)) where
  each_from_passes : (before xs : List X) → Passes (λ _ x. test x) before xs → Each P xs
  each_from_passes before [] h = tt
  each_from_passes before (x ∷ xs) h = ((decides x).0 h.0, each_from_passes (before ++ x ∷ []) xs h.1)

  passes_from_each : (before xs : List X) → Each P xs → Passes (λ _ x. test x) before xs
  passes_from_each before [] h = tt
  passes_from_each before (x ∷ xs) h = ((decides x).1 h.0, passes_from_each (before ++ x ∷ []) xs h.1)

  pub check : (xs : List X) → (first_failing (λ _ x. test x) [] xs ≡ None) ↔ Each P xs
  check xs = (
    λ (is : first_failing (λ _ x. test x) [] xs ≡ None). each_from_passes [] xs (passes_from_none (λ _ x. test x) [] xs is),
    λ (h : Each P xs). none_from_passes (λ _ x. test x) [] xs (passes_from_each [] xs h),
  )

  pub all_decides : (xs : List X) → Decides (list_all test xs) (Each P xs)
  all_decides [] = (λ _. tt, λ _. refl)
  all_decides (x ∷ xs) = (
    λ (e : (test x && list_all test xs) ≡ true). let both = and_parts (test x) (list_all test xs) e in ((decides x).0 both.0, (all_decides xs).0 both.1),
    λ (h : P x × Each P xs). and_from (test x) (list_all test xs) ((decides x).1 h.0) ((all_decides xs).1 h.1),
  )

-- ---- a test against each element before

-- the fact holds of each element and each later one
abbrev pub Later : {X : Type 0} → (X → X → Type 0) → List X → Type 0
Later V [] = ⊤
Later V (x ∷ xs) = Each (V x) xs × Later V xs

module _ {X : Type 0} (test : List X → X → Bool) (V : X → X → Type 0) (decides : (before : List X) (x : X) → Decides (test before x) (Each (λ e. V e x) before)) where
  more : (before : List X) (x : X) (xs : List X) → Each (λ e. V e x) before → Each (λ e. Each (V e) xs) before → Each (λ e. Each (V e) (x ∷ xs)) before
  more [] x xs h k = tt
  more (e ∷ es) x xs h k = ((h.0, k.0), more es x xs h.1 k.1)

  firsts : (before : List X) (x : X) (xs : List X) → Each (λ e. Each (V e) (x ∷ xs)) before → Each (λ e. V e x) before
  firsts [] x xs h = tt
  firsts (e ∷ es) x xs h = (h.0.0, firsts es x xs h.1)

  others : (before : List X) (x : X) (xs : List X) → Each (λ e. Each (V e) (x ∷ xs)) before → Each (λ e. Each (V e) xs) before
  others [] x xs h = tt
  others (e ∷ es) x xs h = (h.0.1, others es x xs h.1)

  pub later_from_passes : (before xs : List X) → Passes test before xs → Each (λ e. Each (V e) xs) before × Later V xs
  later_from_passes before [] h = (none before, tt)
    where
      none : (es : List X) → Each (λ e. Each (V e) []) es
      none [] = tt
      none (e ∷ es) = (tt, none es)
  later_from_passes before (x ∷ xs) h =
      let rest = later_from_passes (before ++ x ∷ []) xs h.1 in
      let old = each-left (λ e. Each (V e) xs) before (x ∷ []) rest.0 in
      let new = each-right (λ e. Each (V e) xs) before (x ∷ []) rest.0 in
      (more before x xs ((decides before x).0 h.0) old, (new.0, rest.1))

  pub passes_from_later : (before xs : List X) → Each (λ e. Each (V e) xs) before → Later V xs → Passes test before xs
  passes_from_later before [] h k = tt
  passes_from_later before (x ∷ xs) h k = (
    (decides before x).1 (firsts before x xs h),
    passes_from_later (before ++ x ∷ []) xs (each-append (λ e. Each (V e) xs) before (x ∷ []) (others before x xs h) (k.0, tt)) k.1,
  )
