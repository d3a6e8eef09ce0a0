-- The blocks of the runs before this one came.
use Rattle.std.proofs.Common.{take}
use Rattle.hfs_space.specs.Again.{AreAgain, is_in}
use Rattle.hfs_space.proofs.again.zeros_again.Given as goal

abbrev pub invariant-loop-i : goal.invariant-loop-i
invariant-loop-i l = AreAgain (is_in (take l.i l.runs)) l.kept l.again
