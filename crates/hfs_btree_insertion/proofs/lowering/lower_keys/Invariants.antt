use Rattle.std.proofs.Common.{◌≡◌}
use Rattle.hfs_btree_insertion.specs.Lowering.{HasLowered}
use Rattle.hfs_btree_insertion.proofs.WayTo.{IsAt}
use Rattle.hfs_btree_insertion.proofs.lowering.lower_keys.Given as goal

abbrev pub invariant-loop-here : goal.invariant-loop-here
invariant-loop-here g l = record {
  at : IsAt g.K.Key (g.S.Nodes.nodes l.nodes) l.key l.here l.n;
  lowered : HasLowered g.K.Key l.key l.here (g.S.Nodes.nodes l.initial.nodes) (g.S.Nodes.nodes l.nodes);
  kept : g.S.NodesMut.kept l.nodes ≡ g.S.NodesMut.kept l.initial.nodes;
}

abbrev pub decreases-loop-here : goal.decreases-loop-here
decreases-loop-here g l = l.here
