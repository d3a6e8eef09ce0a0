use Rattle.std.proofs.Common.{◌≤◌}
use Rattle.hfs_btree_edits.proofs.MapPlaceLemmas.{IsPart}
use Rattle.hfs_btree_edits.proofs.map_bit.bit_of_node.Given as goal

abbrev pub invariant-loop-before : goal.invariant-loop-before
invariant-loop-before g l = record {
  part : IsPart (g.N.Nodes.nodes l.nodes) l.most l.node l.entry l.before;
  low : l.before ≤ l.n;
}

abbrev pub decreases-loop-before : goal.decreases-loop-before
decreases-loop-before g l = l.most
