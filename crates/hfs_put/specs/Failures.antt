-- Where a read of a file in which forks are laid may fail.
use Rattle.std.specs.Prelude.{ℕ, ◌+◌, ◌<◌, ◌≤◌, ◌^◌, ◌⊎◌, List, Contains, Option, IsSome}
use Rattle.hfs_put_sources.specs.declared.fault.HostFault.{HostFault}
use Rattle.hfs_put_sources.specs.declared.fork_run.ForkRun.{ForkRun}
use Rattle.hfs_put.specs.Runs.{end_of}

-- a read of some of so many bytes from a place on fails
pub record FailsWithin (Fails : ℕ → ℕ → Type 0) (place count : ℕ) : Type 0 where
  pub at : ℕ
  pub few : ℕ
  pub behind : place ≤ at
  pub before : at + few ≤ place + count
  pub fails : Fails at few

-- some of them are in a run, where files of the host are read
pub record MeetsRun (start : ℕ) (runs : List ForkRun) (place count : ℕ) : Type 0 where
  pub run : ForkRun
  pub is_one : Contains runs run
  pub behind : place < start + end_of run
  pub before : start + run.place < place + count

-- a read of the file's own bytes fails, or the read meets a run, or leads past all places that there are
abbrev pub FailsLaid : (ℕ → ℕ → Type 0) → ℕ → List ForkRun → ℕ → ℕ → Type 0
FailsLaid Fails start runs place count = FailsWithin Fails place count ⊎ (MeetsRun start runs place count ⊎ (2 ^ 64 ≤ place + count))

-- where it is none of the first and none of the last, a fault of the host is kept
abbrev pub FailsTold : Option HostFault → (ℕ → ℕ → Type 0) → ℕ → ℕ → Type 0
FailsTold fault Fails place count = IsSome fault ⊎ (FailsWithin Fails place count ⊎ (2 ^ 64 ≤ place + count))
