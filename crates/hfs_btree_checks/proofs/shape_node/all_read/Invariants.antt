use Rattle.std.proofs.Common.{◌≡◌, drop}
use Rattle.std.specs.List.{list_all}
use Rattle.hfs_btree.specs.Tree.{reads_at}
use Rattle.hfs_btree_checks.proofs.shape_node.all_read.Given as goal

abbrev pub invariant-loop-i : goal.invariant-loop-i
invariant-loop-i g l = list_all (reads_at g.K.Key l.above) l.node.records ≡ list_all (reads_at g.K.Key l.above) (drop l.i l.node.records)
