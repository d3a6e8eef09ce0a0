-- The records that were taken, and those to come, are all.
use Rattle.std.proofs.Common.{◌≡◌, ◌++◌, length}
use Rattle.hfs_space.specs.TreeKeys.{overflow_of}
use Rattle.hfs_remains.proofs.overflow.records_of_tree.Given as goal

abbrev pub invariant-loop-records : goal.invariant-loop-records
invariant-loop-records g l = l.records.items ++ l.walk ≡ overflow_of (g.N.Nodes.nodes l.nodes)

abbrev pub decreases-loop-records : goal.decreases-loop-records
decreases-loop-records g l = length l.walk
