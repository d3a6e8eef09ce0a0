-- What was found, and the partitions of the entries that are still to come.
use Rattle.std.specs.Prelude.{◌++◌}
use Rattle.std.specs.List.{range_with_len}
use Rattle.hfs_source.specs.Images.{FailsWhere, OfEach}
use Rattle.hfs_source.specs.PartitionMap.{partitions_among}
use Rattle.hfs_source.proofs.Entries.{Completes}
use Rattle.hfs_source.proofs.partition_map.push_entries.Given as goal

abbrev pub invariant-loop-n : goal.invariant-loop-n
invariant-loop-n g l = record {
  found : OfEach (g.S.PlacedBytes.Holds l.source) (λ file. Completes l.block l.len l.count file l.n l.found.items
      (l.initial.found.items ++ partitions_among l.block l.len (range_with_len 1 l.count) file));
  held : OfEach (g.S.PlacedBytes.Holds l.source) (g.S.PlacedBytes.Holds l.initial.source);
  later : FailsWhere (g.S.PlacedBytes.Fails l.source) (g.S.PlacedBytes.Fails l.initial.source);
}
