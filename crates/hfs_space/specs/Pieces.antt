-- The first blocks of runs.
use Rattle.std.specs.Prelude.{◌≡◌, ℕ, ◌-◌, ◌==◌, nat_le, min, if◌then◌else◌, List, [], ◌∷◌, Option, Some, None, MatchOption}
use Rattle.std.specs.Ordering.{nat_cmp, ordering_then}
use Rattle.std.specs.declared.cmp.Ordering.{Ordering}
use Rattle.std.specs.List.Sorted.{IsPermutation, IsSorted}
use Rattle.hfs_fields.specs.declared.extent.Extent.{Extent}

-- the first k blocks of a run, or as many as it has
abbrev pub first_of : ℕ → Extent → Extent
first_of k run = record { first = run.first; count = min k run.count }

-- the first k blocks of these runs: each whole, and of the last one its first as many as are needed
abbrev pub first_blocks : ℕ → List Extent → List Extent
first_blocks k [] = []
first_blocks k (run ∷ runs) = if k == 0 then [] else first_of k run ∷ first_blocks (k - run.count) runs

-- the first of the runs that has k blocks
abbrev pub first_with : ℕ → List Extent → Option Extent
first_with k [] = None
first_with k (run ∷ runs) = if nat_le k run.count then Some run else first_with k runs

-- runs in the order of their lengths, the longest first, and of equal ones the lowest
abbrev pub by_length : Extent → Extent → Ordering
by_length x y = ordering_then (nat_cmp y.count x.count) (nat_cmp x.first y.first)

-- the runs, in that order
pub record AreByLength (runs ordered : List Extent) : Type 0 where
  pub same : IsPermutation runs ordered
  pub order : IsSorted by_length ordered

-- the first k blocks of the runs by their lengths
abbrev pub AreOfLongest : List Extent → ℕ → List Extent → Type 0
AreOfLongest runs k pieces = (ordered : List Extent) × AreByLength runs ordered × (pieces ≡ first_blocks k ordered)

-- k blocks of the lowest run that has so many; where none has, the first k of the runs by their lengths
abbrev pub AreOfRuns : List Extent → ℕ → List Extent → Type 0
AreOfRuns runs k pieces = MatchOption (first_with k runs) (AreOfLongest runs k pieces) (λ run. pieces ≡ first_blocks k (run ∷ []))
