use Rattle.std.proofs.Common.{◌≡◌, ◌-◌, ◌≤◌}
use Rattle.hfs_btree.specs.Tree.{level_below}
use Rattle.hfs_btree.specs.Header.{depth_of, root_level}
use Rattle.hfs_btree_checks.specs.Order.{index_order_fault}
use Rattle.hfs_btree_checks.proofs.OrderTurn.{first-from}
use Rattle.hfs_btree_checks.proofs.order_index.index_order_fault.Given as goal

abbrev pub invariant-loop-at : goal.invariant-loop-at
invariant-loop-at g l = record {
  same : index_order_fault g.K.Key (g.N.Nodes.nodes l.nodes) ≡ first-from g.K.Key (g.N.Nodes.nodes l.nodes) l.at (level_below g.K.Key (g.N.Nodes.nodes l.nodes) (depth_of (g.N.Nodes.nodes l.nodes) - l.at) (root_level (g.N.Nodes.nodes l.nodes)));
  within : l.at ≤ depth_of (g.N.Nodes.nodes l.nodes);
}

abbrev pub decreases-loop-at : goal.decreases-loop-at
decreases-loop-at g l = l.at
