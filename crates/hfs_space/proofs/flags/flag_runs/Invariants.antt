-- The flags of the runs before this one are set, and the others as they were.
use Rattle.std.proofs.Common.{take}
use Rattle.hfs_space.specs.Flags.{HasFlaggedRuns}
use Rattle.hfs_space.proofs.flags.flag_runs.Given as goal

abbrev pub invariant-loop-i : goal.invariant-loop-i
invariant-loop-i l = HasFlaggedRuns (take l.i l.runs) l.initial.flags l.flags
