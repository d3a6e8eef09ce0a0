use Rattle.std.proofs.Common.{◌≡◌, ◌++◌, length}
use Rattle.hfs_blocks.specs.Blocks.{block_at}
use Rattle.hfs_catalog.specs.Records.{Catalog}
use Rattle.hfs_check.specs.Parts.{catalog_in}
use Rattle.hfs_viewers.specs.Opened.{AreRowsOf}
use Rattle.hfs_viewers.proofs.opening.Maps.gathered.Given as goal

abbrev pub invariant-loop-record : goal.invariant-loop-record
invariant-loop-record l =
    (done : Catalog) × (l.records.items ++ done ≡ catalog_in (block_at l.volume.current)) × AreRowsOf l.volume.base l.volume.current done l.maps

abbrev pub decreases-loop-record : goal.decreases-loop-record
decreases-loop-record l = length l.records.items
