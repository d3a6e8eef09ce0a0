-- Reads that fail.
use Rattle.std.specs.Prelude.{ℕ, ◌+◌, ◌≤◌, ◌^◌, ◌⊎◌, List}
use Rattle.hfs_source.specs.Images.{OfEach, ReachesTo}

-- a read of some bytes that each of these images has may fail
abbrev pub SomeFail : (List ℕ → Type 0) → (ℕ → ℕ → Type 0) → Type 0
SomeFail Holds Fails = ∥ ((place : ℕ) × (count : ℕ) × OfEach Holds (ReachesTo (place + count)) × Fails place count) ∥₁

-- of an image of so many bytes that is picked, and that may have what was read: a read of some of its bytes may fail, or it has 2^63 bytes or
-- more, as no file has
abbrev pub SomeFailOf : Type 0 → ℕ → (ℕ → ℕ → Type 0) → Type 0
SomeFailOf Has len Fails = ∥ (((place : ℕ) × (count : ℕ) × (Has → place + count ≤ len) × Fails place count) ⊎ (Has → 2 ^ 63 ≤ len)) ∥₁
