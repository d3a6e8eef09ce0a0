-- The blocks so far have their owners, and as many extents are open as began before this block and did not end.
use Rattle.std.proofs.Common.{◌≡◌, ◌+◌, map}
use Rattle.std.specs.List.{range_with_len}
use Rattle.hfs_space.specs.declared.owners.Edge.TheVariants.{First, Behind}
use Rattle.hfs_space.specs.Extents.{extent_blocks}
use Rattle.hfs_space.specs.Owners.{owners}
use Rattle.hfs_space.proofs.EdgeLemmas.{edges_before}
use Rattle.hfs_space.proofs.owners.owner_counts.Given as goal

abbrev pub invariant-loop-block : goal.invariant-loop-block
invariant-loop-block l = record {
  opened : l.count + edges_before Behind l.extents l.block ≡ edges_before First l.extents l.block;
  counted : l.counts.items ≡ map (owners (extent_blocks l.extents)) (range_with_len 0 l.block);
}
