-- The blocks before the next were looked at.
use Rattle.hfs_put.proofs.BesideRuns.{AreBesideBelow}
use Rattle.hfs_put.proofs.beside.changed_beside.Given as goal

abbrev pub invariant-loop-n : goal.invariant-loop-n
invariant-loop-n g l = AreBesideBelow l.runs l.now.changed.now (g.B.Blocks.blocks l.now.below.now) l.n l.kept
