-- The records of the blocks so far.
use Rattle.std.proofs.Common.{◌≡◌, ◌-◌, ◌<◌}
use Rattle.std.specs.List.{flat_map, range_with_len}
use Rattle.hfs_remains.specs.CatalogRecords.{stray_records_at}
use Rattle.hfs_remains.proofs.strays.all_stray_records.Given as goal

abbrev pub invariant-loop-k : goal.invariant-loop-k
invariant-loop-k g l = record {
  records : l.records.items ≡ flat_map (stray_records_at (g.B.Blocks.blocks l.nodes.blocks.now) l.nodes.mdb.now l.nodes.file.now) (range_with_len 3 (l.k - 3));
  first : l.k-end < 3 → l.k ≡ 3;
}
