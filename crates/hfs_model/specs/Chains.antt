-- Chains of numbers: each leads to the next, as an item's ID leads to its parent's.
use Rattle.std.proofs.Common.{◌≡◌, ℕ, zero, suc, Option, Some}

-- n steps lead from x to y
abbrev pub Leads : (ℕ → Option ℕ) → ℕ → ℕ → ℕ → Type 0
Leads next zero x y = x ≡ y
Leads next (suc n) x y = (z : ℕ) × (next x ≡ Some z) × Leads next n z y
