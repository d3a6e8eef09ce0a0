-- The blocks of the runs so far are counted.
use Rattle.std.proofs.Common.{◌≡◌, take}
use Rattle.hfs_space.specs.Extents.{block_total}
use Rattle.hfs_space.proofs.choosing.block_count.Given as goal

abbrev pub invariant-loop-run : goal.invariant-loop-run
invariant-loop-run l = record {
  counted : l.total ≡ block_total (take l.run-index l.runs);
}
