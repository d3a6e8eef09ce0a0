use Rattle.std.proofs.Common.{◌≡◌}
use Rattle.hfs_btree_removal.proofs.ReleasedSteps.{AreGiven}
use Rattle.hfs_btree_removal.proofs.detach.release_all.Given as goal

abbrev pub invariant-loop-i : goal.invariant-loop-i
invariant-loop-i g l = record {
  given : AreGiven g.K.Key (g.S.Nodes.nodes l.initial.nodes) l.chain l.i (g.S.Nodes.nodes l.nodes);
  kept : g.S.NodesMut.kept l.nodes ≡ g.S.NodesMut.kept l.initial.nodes;
}
