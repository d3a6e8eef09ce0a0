-- The bytes so far are full.
use Rattle.hfs_space.specs.FreeRuns.{AreFull}
use Rattle.hfs_space.proofs.lowest.full_bytes.Given as goal

abbrev pub invariant-loop-i : goal.invariant-loop-i
invariant-loop-i l = AreFull l.bytes l.i
