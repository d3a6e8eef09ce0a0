use Rattle.std.proofs.Common.{map, take}
use Rattle.hfs_btree.specs.Tree.{pair_of}
use Rattle.hfs_btree_checks.specs.Subtree.{HasRange}
use Rattle.hfs_btree_checks.proofs.order_index.leaf_range.Given as goal

abbrev pub invariant-loop-i : goal.invariant-loop-i
invariant-loop-i g l = HasRange g.K.Key.compare l.range (map (pair_of g.K.Key) (take l.i l.node.records))
