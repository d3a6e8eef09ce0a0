use Rattle.std.proofs.Common.{◌≡◌, drop, map}
use Rattle.hfs_btree.specs.Pairs.{pairs_from}
use Rattle.hfs_btree.specs.Tree.{pair_of}
use Rattle.hfs_btree.proofs.leaf.place_in.Given as goal

abbrev pub invariant-loop-i : goal.invariant-loop-i
invariant-loop-i g l = pairs_from g.K.Key.compare l.key (map (pair_of g.K.Key) l.node.records) ≡ pairs_from g.K.Key.compare l.key (map (pair_of g.K.Key) (drop l.i l.node.records))
