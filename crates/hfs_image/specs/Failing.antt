-- Reads that failed.
use Rattle.std.specs.Prelude.{◌≡◌, ℕ, ◌+◌, ◌≤◌, Bool, true, List}
use Rattle.hfs_source.specs.Images.{FailsWhere, OfEach, ReachesTo}

-- a read of some bytes that each of these images has may fail
abbrev pub SomeReadFails : (List ℕ → Type 0) → (ℕ → ℕ → Type 0) → Type 0
SomeReadFails Holds Fails = ∥ ((place : ℕ) × (count : ℕ) × OfEach Holds (ReachesTo (place + count)) × Fails place count) ∥₁

-- a read within so many bytes may fail
abbrev pub SomeFailsWithin : ℕ → (ℕ → ℕ → Type 0) → Type 0
SomeFailsWithin len Fails = ∥ ((place : ℕ) × (count : ℕ) × (place + count ≤ len) × Fails place count) ∥₁

-- there are so many bytes, each read that may fail is one that was picked, and where it is noted that a read of these bytes failed, one that
-- was picked may fail
pub record AreNoted (Fails Picked : ℕ → ℕ → Type 0) (own len : ℕ) (failed : Bool) : Type 0 where
  pub len_is : own ≡ len
  pub later : FailsWhere Fails Picked
  pub noted : failed ≡ true → SomeFailsWithin len Picked
