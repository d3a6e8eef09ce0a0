-- No block from `n` on serves.
use Rattle.std.proofs.Common.{◌≡◌, ◌≤◌, find}
use Rattle.hfs_remains.specs.Directory.{serves, downward}
use Rattle.hfs_remains.proofs.directory.last_serving.Given as goal

abbrev pub invariant-loop-n : goal.invariant-loop-n
invariant-loop-n g l = record {
  within : l.n ≤ g.B.Blocks.total l.blocks;
  none :
      find (serves (g.B.Blocks.total l.blocks) (g.B.Blocks.blocks l.blocks) l.beginning) (downward (g.B.Blocks.total l.blocks))
      ≡ find (serves (g.B.Blocks.total l.blocks) (g.B.Blocks.blocks l.blocks) l.beginning) (downward l.n);
}

abbrev pub decreases-loop-n : goal.decreases-loop-n
decreases-loop-n g l = l.n
