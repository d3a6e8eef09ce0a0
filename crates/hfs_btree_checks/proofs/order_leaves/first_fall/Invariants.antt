use Rattle.std.proofs.Common.{◌-◌}
use Rattle.hfs_btree.specs.Header.{header_in}
use Rattle.hfs_btree_checks.proofs.LeafOrder.{IsRising}
use Rattle.hfs_btree_checks.proofs.order_leaves.first_fall.Given as goal

abbrev pub invariant-loop-n : goal.invariant-loop-n
invariant-loop-n g l = IsRising g.K.Key (g.N.Nodes.nodes l.nodes) l.n l.before l.last

abbrev pub decreases-loop-n : goal.decreases-loop-n
decreases-loop-n g l = (header_in (g.N.Nodes.nodes l.nodes)).records - l.before
