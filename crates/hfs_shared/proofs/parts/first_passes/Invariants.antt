use Rattle.hfs_shared.specs.Shareds.{AreFirstPasses}
use Rattle.hfs_shared.proofs.parts.first_passes.Given as goal

abbrev pub invariant-loop-worker : goal.invariant-loop-worker
invariant-loop-worker l = AreFirstPasses l.worker l.passes.items
