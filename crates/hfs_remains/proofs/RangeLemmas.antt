-- Ranges of numbers, and what is made of each number.
use Rattle.std.proofs.Common.{◌≡◌, ℕ, zero, suc, ◌+◌, ◌*◌, ◌^◌, ◌<◌, ◌≤◌, List, [], ◌++◌, refl, sym, ap, ◌∙◌, arith}
use Rattle.std.specs.List.{flat_map, range_with_len}
use Rattle.std.proofs.Math.Nat.{mul-le-mul}
use Rattle.std.proofs.lemmas.List.{append-nil}
use Rattle.std.proofs.lemmas.Grind.{flat_map-append}
use Rattle.hfs_space.proofs.ForkLawLemmas.{range-add}

module _ {X : Type 0} (f : ℕ → List X) where
  pub flat-add : (a m n j : ℕ) → a + m ≡ j → flat_map f (range_with_len a (m + n)) ≡ flat_map f (range_with_len a m) ++ flat_map f (range_with_len j n)
  flat-add a m n j is =
      ap (flat_map f) (range-add a m n) ∙ flat_map-append f (range_with_len a m) (range_with_len (a + m) n)
      ∙ ap (λ (x : ℕ). flat_map f (range_with_len a m) ++ flat_map f (range_with_len x n)) is

  -- one more number
  pub flat-more : (a n j : ℕ) → a + n ≡ j → flat_map f (range_with_len a (n + 1)) ≡ flat_map f (range_with_len a n) ++ f j
  flat-more a n j is = flat-add a n 1 j is ∙ ap (λ (l : List X). flat_map f (range_with_len a n) ++ l) (append-nil (f j))

  -- numbers of which nothing is made
  pub flat-none : (a n : ℕ) → ((k : ℕ) → k < n → f (a + k) ≡ []) → flat_map f (range_with_len a n) ≡ []
  flat-none a zero none = refl
  flat-none a (suc n) none =
      let here : a + 0 ≡ a = omega arith in
      let next : (k : ℕ) → a + suc k ≡ a + 1 + k = λ k. omega arith in
      (λ t. (ap f (sym here) ∙ none 0 (omega arith)) t ++ flat-none (a + 1) n (λ k lt. ap f (sym (next k)) ∙ none (suc k) (omega arith)) t)

-- a file's nodes are fewer than 2^63
pub few-product : (a b : ℕ) → a < 2 ^ 40 → b < 2 ^ 23 → a * b ≤ 2 ^ 63
few-product a b few small = let most : a * b ≤ 2 ^ 40 * 2 ^ 23 = mul-le-mul {n₁ = a} {m₁ = b} {n₂ = 2 ^ 40} {m₂ = 2 ^ 23} (omega arith) (omega arith) in omega (arith, most)
