-- How many records fit from the first on, where one is put in behind them, and where they are cut.
use Rattle.std.proofs.Common.{◌≡◌, ℕ, zero, suc, ◌+◌, ◌<◌, ◌≤◌, Bool, true, false, List, [], ◌∷◌, length, get_or, take, drop, refl, sym, ap, ◌∙◌, arith, inl, inr}
use Rattle.std.specs.Prelude.{insert}
use Rattle.std.specs.List.{prefix_len}
use Rattle.std.proofs.lemmas.Bool.{cases_Bool, cond-true, cond-false}

module _ (p : List ℕ → Bool) where
  pub one-more : (x : List ℕ) (xs : List (List ℕ)) → p x ≡ true → prefix_len p (x ∷ xs) ≡ 1 + prefix_len p xs
  one-more x xs good = cond-true (p x) (1 + prefix_len p xs) 0 good

  pub none-more : (x : List ℕ) (xs : List (List ℕ)) → p x ≡ false → prefix_len p (x ∷ xs) ≡ 0
  none-more x xs bad = cond-false (p x) (1 + prefix_len p xs) 0 bad

  first-of : (x : List ℕ) (xs : List (List ℕ)) (n : ℕ) → prefix_len p (x ∷ xs) ≡ suc n → (p x ≡ true) × (prefix_len p xs ≡ n)
  first-of x xs n e =
      elim (cases_Bool (p x)) [
        | inl good ↦ (good, (let is = one-more x xs good in omega arith))
        | inr bad ↦ absurd (let is = none-more x xs bad in omega arith)
      ]

  -- put in behind the last that fits
  pub insert-other : (q : ℕ) (xs : List (List ℕ)) (y : List ℕ) → prefix_len p xs ≡ suc q → p y ≡ false → prefix_len p (insert xs (suc q) y) ≡ suc q
  insert-other q [] y e bad = absurd (omega arith)
  insert-other zero (x ∷ xs) y e bad = let f = first-of x xs 0 e in let here = one-more x (y ∷ xs) f.0 in let rest = none-more y xs bad in omega arith
  insert-other (suc q) (x ∷ xs) y e bad =
      let f = first-of x xs (suc q) e in
      let here = one-more x (insert xs (suc q) y) f.0 in
      let rest = insert-other q xs y f.1 bad in
      omega arith

  pub insert-one : (q : ℕ) (xs : List (List ℕ)) (y : List ℕ) → prefix_len p xs ≡ suc q → p y ≡ true → prefix_len p (insert xs (suc q) y) ≡ suc (suc q)
  insert-one q [] y e good = absurd (omega arith)
  insert-one zero (x ∷ xs) y e good = let f = first-of x xs 0 e in let here = one-more x (y ∷ xs) f.0 in let rest = one-more y xs good in let none = f.1 in omega arith
  insert-one (suc q) (x ∷ xs) y e good =
      let f = first-of x xs (suc q) e in
      let here = one-more x (insert xs (suc q) y) f.0 in
      let rest = insert-one q xs y f.1 good in
      omega arith

  -- cut in front of one that doesn't fit
  pub take-prefix : (c : ℕ) (xs : List (List ℕ)) → c < length xs → p (get_or xs c []) ≡ false → prefix_len p (take c xs) ≡ prefix_len p xs
  take-prefix c [] lt bad = absurd (omega arith)
  take-prefix zero (x ∷ xs) lt bad = sym (none-more x xs bad)
  take-prefix (suc c) (x ∷ xs) lt bad =
      elim (cases_Bool (p x)) [
        | inl good ↦ one-more x (take c xs) good ∙ ap (λ (n : ℕ). 1 + n) (take-prefix c xs (omega arith) bad) ∙ sym (one-more x xs good)
        | inr other ↦ none-more x (take c xs) other ∙ sym (none-more x xs other)
      ]

  -- cut behind some that all fit
  pub drop-prefix : (c : ℕ) (xs : List (List ℕ)) → c ≤ length xs → ((j : ℕ) → j < c → p (get_or xs j []) ≡ true) → prefix_len p xs ≡ c + prefix_len p (drop c xs)
  drop-prefix zero xs le all = omega arith
  drop-prefix (suc c) [] le all = absurd (omega arith)
  drop-prefix (suc c) (x ∷ xs) le all =
      let here = one-more x xs (all 0 (omega arith)) in
      let rest = drop-prefix c xs (omega arith) (λ j lt. all (suc j) (omega arith)) in
      omega arith

  pub drop-some : (c : ℕ) (xs : List (List ℕ)) → c < length xs → p (get_or xs c []) ≡ true → 1 ≤ prefix_len p (drop c xs)
  drop-some c [] lt good = absurd (omega arith)
  drop-some zero (x ∷ xs) lt good = let is = one-more x xs good in omega arith
  drop-some (suc c) (x ∷ xs) lt good = drop-some c xs (omega arith) good

pub insert-before : (q : ℕ) (xs : List (List ℕ)) (y : List ℕ) → q < length xs → get_or (insert xs (suc q) y) q [] ≡ get_or xs q []
insert-before q [] y lt = absurd (omega arith)
insert-before zero (x ∷ xs) y lt = refl
insert-before (suc q) (x ∷ xs) y lt = insert-before q xs y (omega arith)

pub insert-here : (q : ℕ) (xs : List (List ℕ)) (y : List ℕ) → q < length xs → get_or (insert xs (suc q) y) (suc q) [] ≡ y
insert-here q [] y lt = absurd (omega arith)
insert-here zero (x ∷ xs) y lt = refl
insert-here (suc q) (x ∷ xs) y lt = insert-here q xs y (omega arith)
