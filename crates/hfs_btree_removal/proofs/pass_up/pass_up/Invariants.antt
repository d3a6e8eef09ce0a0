use Rattle.std.proofs.Common.{◌≡◌}
use Rattle.hfs_btree_removal.proofs.KeysSet.{IsPassing}
use Rattle.hfs_btree_removal.proofs.pass_up.pass_up.Given as goal

abbrev pub invariant-loop-i : goal.invariant-loop-i
invariant-loop-i g l = record {
  passing : IsPassing g.K.Key l.key l.steps (g.S.Nodes.nodes l.initial.nodes) l.i (g.S.Nodes.nodes l.nodes);
  kept : g.S.NodesMut.kept l.nodes ≡ g.S.NodesMut.kept l.initial.nodes;
}
