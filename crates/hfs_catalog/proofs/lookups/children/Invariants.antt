use Rattle.std.proofs.Common.{length}
use Rattle.hfs_catalog.specs.Tree.{catalog_of}
use Rattle.hfs_catalog.proofs.Steps.{IsListing}
use Rattle.hfs_catalog.proofs.lookups.children.Given as goal

abbrev pub invariant-loop-walk : goal.invariant-loop-walk
invariant-loop-walk g l = IsListing (catalog_of (g.N.Nodes.nodes l.nodes)) l.dir l.found.items l.walk

abbrev pub decreases-loop-walk : goal.decreases-loop-walk
decreases-loop-walk g l = length l.walk
