use Rattle.std.proofs.Common.{◌≡◌, length}
use Rattle.hfs_catalog.specs.Records.{item_with}
use Rattle.hfs_catalog.specs.Tree.{catalog_of}
use Rattle.hfs_catalog.proofs.lookups.scan.Given as goal

abbrev pub invariant-loop-walk : goal.invariant-loop-walk
invariant-loop-walk g l = item_with (catalog_of (g.N.Nodes.nodes l.nodes)) l.id ≡ item_with l.walk l.id

abbrev pub decreases-loop-walk : goal.decreases-loop-walk
decreases-loop-walk g l = length l.walk
