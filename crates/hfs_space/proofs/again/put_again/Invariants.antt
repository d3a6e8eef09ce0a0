-- The blocks before this one came.
use Rattle.std.proofs.Common.{◌≤◌}
use Rattle.hfs_space.proofs.RunLemmas.{GainsUpTo}
use Rattle.hfs_space.proofs.again.put_again.Given as goal

abbrev pub invariant-loop-n : goal.invariant-loop-n
invariant-loop-n l = record {
  from : l.fn.run.first ≤ l.n;
  gains : GainsUpTo l.fn.run.first l.n l.kept l.initial.again l.again;
}
