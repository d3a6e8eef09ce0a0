-- The least number that passes a test.
use Rattle.std.specs.Prelude.{◌≡◌, ℕ, ◌<◌, ◌≤◌, Bool, true, false, Option, MatchOption}

-- the least number from a number on that passes
pub record IsLeastFrom (from : ℕ) (passes : ℕ → Bool) (least : ℕ) : Type 0 where
  pub reached : from ≤ least
  pub passed : passes least ≡ true
  pub below : (n : ℕ) → from ≤ n → n < least → passes n ≡ false

-- no number from a number on passes
abbrev pub NoneFrom : ℕ → (ℕ → Bool) → Type 0
NoneFrom from passes = (n : ℕ) → from ≤ n → passes n ≡ false

-- the least one, or none where none passes
abbrev pub FindsLeast : ℕ → (ℕ → Bool) → Option ℕ → Type 0
FindsLeast from passes found = MatchOption found (NoneFrom from passes) (IsLeastFrom from passes)

-- the least one up to a last number, or none where none of these passes
abbrev pub FindsLeastWithin : ℕ → ℕ → (ℕ → Bool) → Option ℕ → Type 0
FindsLeastWithin first last passes found =
    MatchOption found ((n : ℕ) → first ≤ n → n ≤ last → passes n ≡ false) (λ least. (least ≤ last) × IsLeastFrom first passes least)
