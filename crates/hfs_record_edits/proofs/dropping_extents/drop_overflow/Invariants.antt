-- Records of the file have gone, and no others.
use Rattle.std.proofs.Common.{◌≡◌, length}
use Rattle.hfs_space.specs.TreeKeys.{ext_keys, overflow_of}
use Rattle.hfs_record_edits.specs.Overflows.{AreOfOthers, without_file}
use Rattle.hfs_record_edits.specs.Dropped.{HasShrunk}
use Rattle.hfs_record_edits.proofs.dropping_extents.drop_overflow.Given as goal

abbrev pub invariant-loop-key : goal.invariant-loop-key
invariant-loop-key g l = record {
  shrunk : HasShrunk ext_keys (g.S.Nodes.nodes l.initial.nodes) (g.S.Nodes.nodes l.nodes);
  others : without_file l.file (overflow_of (g.S.Nodes.nodes l.nodes)) ≡ without_file l.file (overflow_of (g.S.Nodes.nodes l.initial.nodes));
  none : AreOfOthers l.file (overflow_of (g.S.Nodes.nodes l.initial.nodes)) → l.nodes ≡ l.initial.nodes;
  kept : g.S.NodesMut.kept l.nodes ≡ g.S.NodesMut.kept l.initial.nodes;
}

abbrev pub decreases-loop-key : goal.decreases-loop-key
decreases-loop-key g l = length (overflow_of (g.S.Nodes.nodes l.nodes))
