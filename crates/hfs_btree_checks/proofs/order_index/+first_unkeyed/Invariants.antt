use Rattle.std.proofs.Common.{◌≡◌, ◌-◌, drop}
use Rattle.hfs_btree_checks.proofs.OrderTurn.{first-under}
use Rattle.hfs_btree_checks.proofs.order_index.+first_unkeyed.Given as goal

abbrev pub decreases-first_unkeyed : goal.decreases-first_unkeyed
decreases-first_unkeyed g l = l.above

abbrev pub invariant-loop-i : goal.invariant-loop-i
invariant-loop-i g l = first-under g.K.Key (g.N.Nodes.nodes l.nodes) l.at (l.above - l.at - 1) l.node.records ≡ first-under g.K.Key (g.N.Nodes.nodes l.nodes) l.at (l.above - l.at - 1) (drop l.i l.node.records)
