-- Free blocks in a row.
use Rattle.std.proofs.Common.{◌≡◌, ℕ, ◌+◌, ◌-◌, ◌<◌, ◌≤◌, Bool, true, false, ap, ◌∙◌, arith, inl, inr}
use Rattle.std.proofs.lemmas.Bool.{cases_lt}
use Rattle.hfs_space.specs.Choice.{IsFreeRow}

module _ (used : ℕ → Bool) (n first wanted block : ℕ) (few : block - first ≤ wanted) (free : (b : ℕ) → first ≤ b → b < block → used b ≡ false) where
  -- as many as are wanted
  pub row-enough : (count : ℕ) → first ≤ block → block < n → count ≡ block - first → count ≡ wanted → IsFreeRow used n first wanted count
  row-enough count from below is enough = record {
    few = omega (arith, enough);
    within = λ some. omega (arith, from, below, is);
    free = λ b low high. free b low (omega (arith, from, is, high));
    ends = λ less end. absurd (omega (arith, less, enough));
  }

  -- up to one that is in use
  pub row-stopped : (count : ℕ) → first ≤ block → block < n → count ≡ block - first → used block ≡ true → IsFreeRow used n first wanted count
  row-stopped count from below is stops = record {
    few = omega (arith, few, is);
    within = λ some. omega (arith, from, below, is);
    free = λ b low high. free b low (omega (arith, from, is, high));
    ends = λ less end. ap used (let e : first + count ≡ block = omega (arith, from, is) in e) ∙ stops;
  }

  -- up to the last block of the volume
  pub row-last : (count : ℕ) → n ≤ block → count ≡ n - first → IsFreeRow used n first wanted count
  row-last count end is = record {
    few = omega (arith, few, end, is);
    within = λ some. omega (arith, some, is);
    free = λ b low high. free b low (omega (arith, low, high, end, is));
    ends = λ less below. absurd (omega (arith, less, below, is));
  }

-- one more that is free
pub free-more : (used : ℕ → Bool) (first block : ℕ) → ((b : ℕ) → first ≤ b → b < block → used b ≡ false) → used block ≡ false → (b : ℕ) → first ≤ b → b < block + 1 → used b ≡ false
free-more used first block free here b low high = elim (cases_lt b block) [
  | inl less ↦ free b low less
  | inr last ↦ ap used (let e : b ≡ block = omega (arith, last, high) in e) ∙ here
]
