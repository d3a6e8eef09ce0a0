-- Bytes that are written at a place, and what is read afterwards.
use Rattle.std.proofs.Common.{◌≡◌, ℕ, ◌+◌, ◌<◌, ◌≤◌, ◌⊎◌, List, length}
use Rattle.std.specs.Prelude.{slice_index}

-- these bytes were written at this place, and nothing else changed
pub record IsPut (at : ℕ) (bytes old new : List ℕ) : Type 0 where
  pub here : (k : ℕ) → k < length bytes → slice_index new (at + k) ≡ slice_index bytes k
  pub rest : (k : ℕ) → (k < at) ⊎ (at + length bytes ≤ k) → slice_index new k ≡ slice_index old k
  pub len : length new ≡ length old
