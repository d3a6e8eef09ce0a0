-- The edge was set down to the level that stands so many levels above the leaves, and the node is that level's first.
use Rattle.std.proofs.Common.{◌≡◌, ◌<◌}
use Rattle.hfs_btree.specs.Header.{depth_of}
use Rattle.hfs_record_edits.specs.Edge.{edge, HasSetEdge}
use Rattle.hfs_record_edits.proofs.edge.set_edge.Given as goal

abbrev pub invariant-loop-here : goal.invariant-loop-here
invariant-loop-here g l = record {
  within : l.here < depth_of (g.S.Nodes.nodes l.initial.nodes);
  at : l.n ≡ edge g.K.Key (g.S.Nodes.nodes l.initial.nodes) l.here;
  set : HasSetEdge g.K.Key l.key l.here (g.S.Nodes.nodes l.initial.nodes) (g.S.Nodes.nodes l.nodes);
  kept : g.S.NodesMut.kept l.nodes ≡ g.S.NodesMut.kept l.initial.nodes;
}

abbrev pub decreases-loop-here : goal.decreases-loop-here
decreases-loop-here g l = l.here
