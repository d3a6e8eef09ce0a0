use Rattle.std.proofs.Common.{◌≡◌}
use Rattle.hfs_btree.specs.Header.{header_in}
use Rattle.hfs_btree_removal.specs.Removal.{HasLowered}
use Rattle.hfs_btree_removal.proofs.top.lower_root.Given as goal

abbrev pub invariant-loop-header : goal.invariant-loop-header
invariant-loop-header g l = record {
  lowered : HasLowered g.K.Key (g.S.Nodes.nodes l.initial.nodes) (g.S.Nodes.nodes l.nodes);
  kept : g.S.NodesMut.kept l.nodes ≡ g.S.NodesMut.kept l.initial.nodes;
  header : l.header ≡ header_in (g.S.Nodes.nodes l.nodes);
}

abbrev pub decreases-loop-header : goal.decreases-loop-header
decreases-loop-header g l = l.header.depth
