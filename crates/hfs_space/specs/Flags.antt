-- Flags of blocks, one for each block of an image: those that are set are blocks of zeros.
use Rattle.std.proofs.Common.{cond, sym, ap, ◌∙◌}
use Rattle.std.proofs.lemmas.List.{length-replicate}
use Rattle.std.proofs.lemmas.Option.{same_Some, none-some}
use Rattle.std.specs.Prelude.{◌≡◌, ℕ, ◌<◌, ◌≤◌, ◌⊎◌, Bool, true, false, ◌||◌, if◌then◌else◌, List, length, Option, Some, None, nat_eq, slice_index_or}
use Rattle.std.specs.List.{list_any}
use Rattle.hfs_blocks.specs.declared.run.Run.{Run}
use Rattle.hfs_blocks.specs.Layers.{Changes, AreWhole}
use Rattle.hfs_space.specs.Parts.{zeros}
use Rattle.hfs_space.specs.Zeros.{is_of_run}

-- the flag of block n is set
abbrev pub is_flagged : List Bool → ℕ → Bool
is_flagged flags n = slice_index_or flags n false

-- 512 zeros where it is so
abbrev pub zeros_if : Bool → Option (List ℕ)
zeros_if b = if b then Some (zeros 512) else None

-- the flagged blocks by their numbers, each of 512 zeros
abbrev pub flagged : List Bool → Changes
flagged flags n = zeros_if (is_flagged flags n)

pub AreWhole-flagged : (flags : List Bool) → AreWhole (flagged flags)
AreWhole-flagged flags n b found = by (is_flagged flags n) found
  where
    by : (t : Bool) → cond t (Some (zeros 512)) None ≡ Some b → length b ≡ 512
    by true e = let zero_byte : ℕ = 0 in ap (λ (l : List ℕ). length l) (sym (same_Some (zeros 512) b e)) ∙ length-replicate 512 zero_byte
    by false e = absurd (none-some b e)

-- the flags from `first` up to `end` are set, and the others as they were
pub record HasFlagged (first end : ℕ) (old new : List Bool) : Type 0 where
  pub len : length new ≡ length old
  pub set : (k : ℕ) → first ≤ k → k < end → is_flagged new k ≡ true
  pub others : (k : ℕ) → (k < first) ⊎ (end ≤ k) → is_flagged new k ≡ is_flagged old k

-- the flags of the blocks of these runs are set, and the others as they were
pub record HasFlaggedRuns (runs : List Run) (old new : List Bool) : Type 0 where
  pub len : length new ≡ length old
  pub are : (n : ℕ) → is_flagged new n ≡ (list_any (is_of_run n) runs || is_flagged old n)

-- the same flags are set
abbrev pub AreSameFlags : List Bool → List Bool → Type 0
AreSameFlags old new = (n : ℕ) → is_flagged new n ≡ is_flagged old n

-- the flag of this number is set, and the others as they were
abbrev pub IsFlaggedAt : ℕ → List Bool → List Bool → Type 0
IsFlaggedAt n old new = (k : ℕ) → is_flagged new k ≡ (nat_eq n k || is_flagged old k)
