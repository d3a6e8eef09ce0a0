-- The blocks of a patch that lie outside the runs of forks.
use Rattle.std.specs.Prelude.{◌≡◌, ℕ, ◌+◌, ◌*◌, ◌<◌, ◌≤◌, Bool, true, false, ◌&&◌, nat_le, nat_lt, if◌then◌else◌, List, [], ◌∷◌, length, slice_index_or, Option, None}
use Rattle.std.specs.List.{list_any, range_with_len}
use Rattle.hfs_blocks.specs.Layers.{Numbered, changes}
use Rattle.hfs_copy.specs.Keeping.{GainsChanged}
use Rattle.hfs_put_sources.specs.declared.fork_run.ForkRun.{ForkRun}

-- the byte is one of the run's
abbrev pub is_of_run : ℕ → ForkRun → Bool
is_of_run byte run = nat_le run.place byte && nat_lt byte (run.place + run.len)

-- block n begins in one of the runs
abbrev pub is_in_runs : List ForkRun → ℕ → Bool
is_in_runs runs n = list_any (is_of_run (512 * n)) runs

-- the patch's block of that number, unless it begins in one of the runs
abbrev pub block_beside : List ForkRun → Numbered → ℕ → Option (List ℕ)
block_beside runs patch n = if is_in_runs runs n then None else changes patch n

-- these are the patch's blocks that begin in none of the runs
abbrev pub AreBeside : List ForkRun → Numbered → Numbered → Type 0
AreBeside runs patch kept = (n : ℕ) → changes kept n ≡ block_beside runs patch n

-- ---- on the way

-- block n was added, if it is changed and other than the one below, unless it begins in one of the runs; no other was
pub record PutsBeside (runs : List ForkRun) (changed : Numbered) (below : ℕ → List ℕ) (n : ℕ) (old new : Numbered) : Type 0 where
  pub inside : is_in_runs runs n ≡ true → new ≡ old
  pub outside : is_in_runs runs n ≡ false → GainsChanged changed below (n ∷ []) old new

-- of so many blocks, these are those that are changed and other than the ones below, except those that begin in one of the runs
pub record AreChangedBeside (runs : List ForkRun) (changed : Numbered) (below : ℕ → List ℕ) (count : ℕ) (kept : Numbered) : Type 0 where
  pub differing : Numbered
  pub all : GainsChanged changed below (range_with_len 0 count) [] differing
  pub beside : AreBeside runs differing kept

-- so many runs begin at this byte or before it, and no others
pub record HaveBegun (runs : List ForkRun) (byte count : ℕ) : Type 0 where
  pub within : count ≤ length runs
  pub before : (i : ℕ) (d : ForkRun) → i < count → (slice_index_or runs i d).place ≤ byte
  pub behind : (i : ℕ) (d : ForkRun) → count ≤ i → i < length runs → byte < (slice_index_or runs i d).place
