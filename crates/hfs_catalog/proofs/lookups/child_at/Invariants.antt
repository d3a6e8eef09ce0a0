use Rattle.std.proofs.Common.{length}
use Rattle.hfs_catalog.specs.Tree.{catalog_of}
use Rattle.hfs_catalog.proofs.Steps.{IsApproach}
use Rattle.hfs_catalog.proofs.lookups.child_at.Given as goal

abbrev pub invariant-loop-walk : goal.invariant-loop-walk
invariant-loop-walk g l = IsApproach (catalog_of (g.N.Nodes.nodes l.nodes)) l.dir l.place l.left l.walk

abbrev pub decreases-loop-walk : goal.decreases-loop-walk
decreases-loop-walk g l = length l.walk
