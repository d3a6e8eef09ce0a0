-- Runs of free allocation blocks. Blocks here are allocation blocks, counted from 0; `used` says which are in use.
use Rattle.std.specs.Prelude.{◌≡◌, ℕ, ◌+◌, ◌-◌, ◌<◌, ◌≤◌, Bool, true, not, ◌&&◌, ◌||◌, ◌==◌, nat_le, nat_lt, if◌then◌else◌, List, [], ◌∷◌, ◌++◌, filter, slice_index}
use Rattle.std.specs.List.{All, range_with_len}
use Rattle.hfs_fields.specs.declared.extent.Extent.{Extent}
use Rattle.hfs_space.specs.Extents.{extent_blocks}

-- the free ones of the first n blocks, in order
abbrev pub free_blocks : (ℕ → Bool) → ℕ → List ℕ
free_blocks used n = filter (λ b. not (used b)) (range_with_len 0 n)

-- the run has a block and lies among the first n, and neither the block before it nor the one after it is free
pub record IsWhole (used : ℕ → Bool) (n : ℕ) (run : Extent) : Type 0 where
  pub some : 0 < run.count
  pub within : run.first + run.count ≤ n
  pub begins : 0 < run.first → used (run.first - 1) ≡ true
  pub ends : run.first + run.count < n → used (run.first + run.count) ≡ true

-- one after the other, the runs have the free ones of the first n blocks, in order and each once; none could be longer
pub record AreFreeRuns (used : ℕ → Bool) (n : ℕ) (runs : List Extent) : Type 0 where
  pub blocks : extent_blocks runs ≡ free_blocks used n
  pub whole : All (IsWhole used n) runs

-- the block is one of the extent's
abbrev pub is_in : Extent → ℕ → Bool
is_in e b = nat_le e.first b && nat_lt b (e.first + e.count)

-- the block is in use, or is one of the extent's
abbrev pub is_taken : (ℕ → Bool) → Extent → ℕ → Bool
is_taken used e b = used b || is_in e b

-- one of the eight blocks from `first` on may be the extent's
abbrev pub meets : Extent → ℕ → Bool
meets e first = nat_lt e.first (first + 8) && nat_lt first (e.first + e.count)

-- each of the first `count` bytes of a block of the bitmap says of eight blocks that they are in use
abbrev pub AreFull : List ℕ → ℕ → Type 0
AreFull bytes count = (k : ℕ) → k < count → slice_index bytes k ≡ 255

-- the run of `count` blocks directly before a block, if it has one
abbrev pub run_before : ℕ → ℕ → List Extent
run_before end count = if count == 0 then [] else record { first = end - count; count = count } ∷ []

-- among the first i blocks: the runs that have ended, and the free blocks directly before block i
pub record IsRunning (used : ℕ → Bool) (n i count : ℕ) (runs : List Extent) : Type 0 where
  pub few : count ≤ i
  pub blocks : extent_blocks runs ++ range_with_len (i - count) count ≡ free_blocks used i
  pub whole : All (IsWhole used n) runs
  pub begins : 0 < i - count → used (i - count - 1) ≡ true

-- among the first i blocks no run that has ended has `count` blocks, and so many are free directly before block i
abbrev pub IsSearched : (ℕ → Bool) → ℕ → ℕ → ℕ → ℕ → Type 0
IsSearched used n count i free = (runs : List Extent) × IsRunning used n i free runs × All (λ run. run.count < count) runs
