use Rattle.std.proofs.Common.{◌≡◌}
use Rattle.hfs_btree_removal.proofs.StepsUnlinked.{AreDone}
use Rattle.hfs_btree_removal.proofs.unlink.unlink_all.Given as goal

abbrev pub invariant-loop-i : goal.invariant-loop-i
invariant-loop-i g l = record {
  done : AreDone (g.S.Nodes.nodes l.initial.nodes) l.chain l.i l.last.left l.last.right (g.S.Nodes.nodes l.nodes);
  kept : g.S.NodesMut.kept l.nodes ≡ g.S.NodesMut.kept l.initial.nodes;
}
