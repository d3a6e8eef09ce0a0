use Rattle.std.proofs.Common.{◌≡◌, drop, map}
use Rattle.hfs_btree.specs.Tree.{pair_of}
use Rattle.hfs_btree_checks.specs.Rises.{fall_from, last_key}
use Rattle.hfs_btree_checks.proofs.order_leaves.fall_in.Given as goal

abbrev pub invariant-loop-i : goal.invariant-loop-i
invariant-loop-i g l = record {
  fall : fall_from g.K.Key.compare l.initial.last 0 (map (pair_of g.K.Key) l.node.records) ≡ fall_from g.K.Key.compare l.last l.i (map (pair_of g.K.Key) (drop l.i l.node.records));
  last : last_key l.initial.last (map (pair_of g.K.Key) l.node.records) ≡ last_key l.last (map (pair_of g.K.Key) (drop l.i l.node.records));
}
