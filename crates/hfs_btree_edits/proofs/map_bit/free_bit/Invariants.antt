use Rattle.std.proofs.Common.{◌≤◌, ◌+◌}
use Rattle.hfs_btree_edits.proofs.FullMapLemmas.{AreSet}
use Rattle.hfs_btree_edits.proofs.MapPlaceLemmas.{IsPart}
use Rattle.hfs_btree_edits.proofs.map_bit.free_bit.Given as goal

abbrev pub invariant-loop-before : goal.invariant-loop-before
invariant-loop-before g l = record {
  part : IsPart (g.N.Nodes.nodes l.nodes) l.most l.node l.entry l.before;
  full : AreSet (g.N.Nodes.nodes l.nodes) l.before l.count;
  low : l.before ≤ l.count + 3952;
}

abbrev pub decreases-loop-before : goal.decreases-loop-before
decreases-loop-before g l = l.most
