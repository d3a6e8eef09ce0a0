-- What became of the items so far, and what becomes of the rest.
use Rattle.std.proofs.Common.{◌≡◌, length}
use Rattle.hfs_check.specs.VolumeOf.{volume_of}
use Rattle.hfs_put.specs.PlacedSources.{decisions}
use Rattle.hfs_put.proofs.PlacedLists.{AreSoFar}
use Rattle.hfs_put.proofs.placing.place_sources.Given as goal

abbrev pub invariant-loop-source : goal.invariant-loop-source
invariant-loop-source l = record {
  count : length l.insides.items ≡ l.source-index;
  so_far : AreSoFar (volume_of l.volume.current) l.target l.replace l.sources (decisions (volume_of l.volume.current) l.target l.replace l.sources) l.insides.items l.source-index
      l.items.items l.refused.items;
}
