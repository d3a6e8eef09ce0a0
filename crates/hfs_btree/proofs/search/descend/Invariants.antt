use Rattle.std.proofs.Common.{◌≡◌, get_or, []}
use Rattle.hfs_btree.specs.Search.{leaf_for, leaf_under}
use Rattle.hfs_btree.proofs.RisingWays.{IsOnRisingWay}
use Rattle.hfs_btree.proofs.search.descend.Given as goal

abbrev pub invariant-loop-below : goal.invariant-loop-below
invariant-loop-below g l = record {
  same : leaf_under g.K.Key (g.N.Nodes.nodes l.nodes) l.key l.below l.n ≡ leaf_for g.K.Key (g.N.Nodes.nodes l.nodes) l.key;
  at : IsOnRisingWay g.K.Key (g.N.Nodes.nodes l.nodes) l.below l.n;
  bytes : l.bytes ≡ get_or (g.N.Nodes.nodes l.nodes) l.n [];
}

abbrev pub decreases-loop-below : goal.decreases-loop-below
decreases-loop-below g l = l.below
