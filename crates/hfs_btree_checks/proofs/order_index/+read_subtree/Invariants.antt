use Rattle.std.proofs.Common.{◌-◌}
use Rattle.hfs_btree_checks.proofs.Subtrees.{IsSeen}
use Rattle.hfs_btree_checks.proofs.order_index.+read_subtree.Given as goal

abbrev pub decreases-read_subtree : goal.decreases-read_subtree
decreases-read_subtree g l = l.above

abbrev pub invariant-loop-i : goal.invariant-loop-i
invariant-loop-i g l = IsSeen g.K.Key (g.N.Nodes.nodes l.nodes) (l.above - 1) l.node.records l.i l.range l.before l.keyed l.below
