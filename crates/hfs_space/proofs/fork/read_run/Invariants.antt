-- The bytes of the run up to this one are appended.
use Rattle.std.proofs.Common.{◌≡◌, ◌-◌, ◌≤◌, ◌++◌, take, drop}
use Rattle.hfs_space.specs.Forks.{run_bytes}
use Rattle.hfs_space.proofs.fork.read_run.Given as goal

abbrev pub invariant-loop-at : goal.invariant-loop-at
invariant-loop-at g l = record {
  after : l.from ≤ l.at;
  before : l.at ≤ l.end;
  read : l.bytes.items ≡ l.initial.bytes.items ++ take (l.at - l.from) (drop l.from (run_bytes (g.B.Blocks.blocks l.blocks) l.run.first l.run.count));
}

abbrev pub decreases-loop-at : goal.decreases-loop-at
decreases-loop-at g l = l.end - l.at
