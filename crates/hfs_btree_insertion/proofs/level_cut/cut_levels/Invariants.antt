use Rattle.std.proofs.Common.{◌≡◌, ◌≤◌}
use Rattle.hfs_btree_insertion.specs.Steps.{HasCutDown}
use Rattle.hfs_btree_insertion.proofs.level_cut.cut_levels.Given as goal

abbrev pub invariant-loop-above : goal.invariant-loop-above
invariant-loop-above g l = record {
  most : l.above ≤ l.full;
  low : l.least ≤ l.above;
  down : HasCutDown g.K.Key l.key l.len l.above l.full (g.S.Nodes.nodes l.fn.nodes) (g.S.Nodes.nodes l.nodes);
  kept : g.S.NodesMut.kept l.nodes ≡ g.S.NodesMut.kept l.fn.nodes;
}

abbrev pub decreases-loop-above : goal.decreases-loop-above
decreases-loop-above g l = l.above
