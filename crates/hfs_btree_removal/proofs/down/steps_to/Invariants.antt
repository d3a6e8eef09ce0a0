use Rattle.std.proofs.Common.{◌≡◌, ◌+◌, get_or, [], length}
use Rattle.hfs_btree.specs.Header.{header_in, depth_of}
use Rattle.hfs_btree.specs.Search.{leaf_for, leaf_under}
use Rattle.hfs_btree_removal.specs.Ways.{Leads}
use Rattle.hfs_btree.proofs.DescentLemmas.{IsOnWay}
use Rattle.hfs_btree_removal.proofs.down.steps_to.Given as goal

abbrev pub invariant-loop-below : goal.invariant-loop-below
invariant-loop-below g l = record {
  same : leaf_under g.K.Key (g.N.Nodes.nodes l.nodes) l.key l.below l.n ≡ leaf_for g.K.Key (g.N.Nodes.nodes l.nodes) l.key;
  way : IsOnWay g.K.Key (g.N.Nodes.nodes l.nodes) l.below l.n;
  bytes : l.bytes ≡ get_or (g.N.Nodes.nodes l.nodes) l.n [];
  leads : Leads g.K.Key (g.N.Nodes.nodes l.nodes) (header_in (g.N.Nodes.nodes l.nodes)).root l.steps.items l.n;
  long : (length l.steps.items + 1) + l.below ≡ depth_of (g.N.Nodes.nodes l.nodes);
}

abbrev pub decreases-loop-below : goal.decreases-loop-below
decreases-loop-below g l = l.below
