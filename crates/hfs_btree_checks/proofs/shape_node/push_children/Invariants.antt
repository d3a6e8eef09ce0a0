use Rattle.std.proofs.Common.{◌≡◌, ◌++◌, take, map}
use Rattle.hfs_btree_checks.proofs.shape_node.push_children.Given as goal

abbrev pub invariant-loop-i : goal.invariant-loop-i
invariant-loop-i g l = l.next.items ≡ l.initial.next.items ++ map g.K.Key.child (take l.i l.node.records)
