-- Runs of blocks of zeros, which are laid over other blocks.
use Rattle.std.proofs.Common.{cond, sym, ap, ◌∙◌}
use Rattle.std.proofs.lemmas.List.{length-replicate}
use Rattle.std.proofs.lemmas.Option.{same_Some, none-some}
use Rattle.std.specs.Prelude.{◌≡◌, ℕ, ◌+◌, ◌<◌, ◌≤◌, Bool, true, false, ◌&&◌, nat_le, nat_lt, if◌then◌else◌, List, length, Some, None, slice_index_or}
use Rattle.std.specs.List.{All, count_by, list_any}
use Rattle.hfs_blocks.specs.declared.run.Run.{Run}
use Rattle.hfs_blocks.specs.Layers.{Changes, AreWhole}
use Rattle.hfs_space.specs.Parts.{zeros}

-- the block is one of the run's
abbrev pub is_of_run : ℕ → Run → Bool
is_of_run n run = nat_le run.first n && nat_lt n (run.first + run.count)

-- the blocks of these runs by their numbers, each of 512 zeros
abbrev pub zero_blocks : List Run → Changes
zero_blocks runs n = if list_any (is_of_run n) runs then Some (zeros 512) else None

pub AreWhole-zero_blocks : (runs : List Run) → AreWhole (zero_blocks runs)
AreWhole-zero_blocks runs n b found = by (list_any (is_of_run n) runs) found
  where
    by : (t : Bool) → cond t (Some (zeros 512)) None ≡ Some b → length b ≡ 512
    by true e = let zero_byte : ℕ = 0 in ap (λ (l : List ℕ). length l) (sym (same_Some (zeros 512) b e)) ∙ length-replicate 512 zero_byte
    by false e = absurd (none-some b e)

-- each run has a block, and no block is in two of them
pub record AreOnce (runs : List Run) : Type 0 where
  pub some : All (λ run. 0 < run.count) runs
  pub once : (n : ℕ) → count_by (is_of_run n) runs ≤ 1

-- each run ends before the next begins, or where it does
abbrev pub AreApart : List Run → Type 0
AreApart runs = (i j : ℕ) (d : Run) → i < j → j < length runs → (slice_index_or runs i d).first + (slice_index_or runs i d).count ≤ (slice_index_or runs j d).first

-- the blocks of the runs are among so many
abbrev pub AreAmong : List Run → ℕ → Type 0
AreAmong runs total = All (λ run. run.first + run.count ≤ total) runs

-- where blocks of the first runs are among so many, those of the others are
abbrev pub StayAmong : List Run → List Run → Type 0
StayAmong xs ys = (total : ℕ) → AreAmong xs total → AreAmong ys total

-- both have the same blocks
abbrev pub HaveSameBlocks : List Run → List Run → Type 0
HaveSameBlocks xs ys = (n : ℕ) → zero_blocks ys n ≡ zero_blocks xs n

-- the first so many of the runs begin at the block or before it, and the others behind it
pub record HaveBegun (runs : List Run) (n count : ℕ) : Type 0 where
  pub within : count ≤ length runs
  pub before : (i : ℕ) (d : Run) → i < count → (slice_index_or runs i d).first ≤ n
  pub behind : (i : ℕ) (d : Run) → count ≤ i → i < length runs → n < (slice_index_or runs i d).first
