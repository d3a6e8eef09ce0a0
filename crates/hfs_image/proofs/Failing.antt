-- Reads that failed.
use Rattle.std.proofs.Common.{ℕ, ◌+◌, ◌≤◌, List, subst, sym}
use Rattle.std.proofs.Math.Logic.{∥∥₁_map}
use Rattle.hfs_source.specs.Images.{FailsWhere, HasLength, OfEach}
use Rattle.hfs_image.specs.Failing.{SomeFailsWithin, SomeReadFails}

-- where images have so many bytes, what fails within these is a read of bytes that they have
pub within_fails : (Holds : List ℕ → Type 0) (Fails : ℕ → ℕ → Type 0) (len : ℕ) → OfEach Holds (HasLength len)
    → SomeFailsWithin len Fails → SomeReadFails Holds Fails
within_fails Holds Fails len long failed =
    ∥∥₁_map failed (λ (s : (place : ℕ) × (count : ℕ) × (place + count ≤ len) × Fails place count).
    (s.0, s.1, (λ image holds. subst (λ n. s.0 + s.1 ≤ n) (sym (long image holds)) s.2), s.3))

-- what fails later failed before
pub fails_before : (New Old : ℕ → ℕ → Type 0) (len : ℕ) → FailsWhere New Old → SomeFailsWithin len New → SomeFailsWithin len Old
fails_before New Old len later failed =
    ∥∥₁_map failed (λ (s : (place : ℕ) × (count : ℕ) × (place + count ≤ len) × New place count). (s.0, s.1, s.2, later s.0 s.1 s.3))
