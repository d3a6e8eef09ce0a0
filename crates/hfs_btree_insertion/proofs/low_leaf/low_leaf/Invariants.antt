use Rattle.std.proofs.Common.{◌≡◌, get_or, []}
use Rattle.hfs_btree.proofs.RisingWays.{IsOnRisingWay}
use Rattle.hfs_btree_insertion.specs.Room.{IsLowAbove}
use Rattle.hfs_btree_insertion.proofs.WayTo.{IsAt}
use Rattle.hfs_btree_insertion.proofs.low_leaf.low_leaf.Given as goal

abbrev pub invariant-loop-here : goal.invariant-loop-here
invariant-loop-here g l = record {
  at : IsAt g.K.Key (g.N.Nodes.nodes l.nodes) l.key l.here l.n;
  rising : IsOnRisingWay g.K.Key (g.N.Nodes.nodes l.nodes) l.here l.n;
  low : IsLowAbove g.K.Key (g.N.Nodes.nodes l.nodes) l.key l.here;
  bytes : l.bytes ≡ get_or (g.N.Nodes.nodes l.nodes) l.n [];
}

abbrev pub decreases-loop-here : goal.decreases-loop-here
decreases-loop-here g l = l.here
