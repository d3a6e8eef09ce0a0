use Rattle.std.proofs.Common.{◌≡◌, get_or, []}
use Rattle.hfs_btree_insertion.proofs.WayTo.{IsAt, IsCounted}
use Rattle.hfs_btree_insertion.proofs.way.full_levels.Given as goal

abbrev pub invariant-loop-here : goal.invariant-loop-here
invariant-loop-here g l = record {
  at : IsAt g.K.Key (g.N.Nodes.nodes l.nodes) l.key l.here l.n;
  counted : IsCounted g.K.Key (g.N.Nodes.nodes l.nodes) l.key l.here l.full;
  bytes : l.bytes ≡ get_or (g.N.Nodes.nodes l.nodes) l.n [];
}

abbrev pub decreases-loop-here : goal.decreases-loop-here
decreases-loop-here g l = l.here
