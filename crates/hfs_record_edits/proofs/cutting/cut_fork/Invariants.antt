-- Records of the fork's end have gone, and no others.
use Rattle.std.proofs.Common.{◌≡◌, length}
use Rattle.hfs_space.specs.TreeKeys.{ext_keys, overflow_of}
use Rattle.hfs_record_edits.specs.Dropped.{HasShrunk}
use Rattle.hfs_record_edits.specs.Cutting.{IsBefore, without_from}
use Rattle.hfs_record_edits.proofs.cutting.cut_fork.Given as goal

abbrev pub invariant-loop-key : goal.invariant-loop-key
invariant-loop-key g l = record {
  shrunk : HasShrunk ext_keys (g.S.Nodes.nodes l.initial.nodes) (g.S.Nodes.nodes l.nodes);
  others : without_from l.from (overflow_of (g.S.Nodes.nodes l.nodes)) ≡ without_from l.from (overflow_of (g.S.Nodes.nodes l.initial.nodes));
  none : IsBefore l.from (overflow_of (g.S.Nodes.nodes l.initial.nodes)) → l.nodes ≡ l.initial.nodes;
  kept : g.S.NodesMut.kept l.nodes ≡ g.S.NodesMut.kept l.initial.nodes;
}

abbrev pub decreases-loop-key : goal.decreases-loop-key
decreases-loop-key g l = length (overflow_of (g.S.Nodes.nodes l.nodes))
