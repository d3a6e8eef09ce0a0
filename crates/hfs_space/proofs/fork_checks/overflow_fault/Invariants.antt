-- The records so far are right.
use Rattle.std.proofs.Common.{◌≡◌, take, drop}
use Rattle.hfs_fields.specs.First.{first_failing}
use Rattle.hfs_space.specs.Runs.{forks_with}
use Rattle.hfs_space.specs.Faults.{is_overflow_right, overflow_fault}
use Rattle.hfs_space.proofs.fork_checks.overflow_fault.Given as goal

abbrev pub invariant-loop-i : goal.invariant-loop-i
invariant-loop-i l =
    first_failing (λ _ r. is_overflow_right l.mdb l.overflow (forks_with l.mdb l.files) r) (take l.i l.overflow) (drop l.i l.overflow) ≡ overflow_fault l.mdb l.overflow (forks_with l.mdb l.files)
