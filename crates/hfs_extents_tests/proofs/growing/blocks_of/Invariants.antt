-- The blocks of the extents so far are counted.
use Rattle.std.proofs.Common.{◌≡◌, ◌≤◌, length, take}
use Rattle.hfs_space.specs.Extents.{block_total}
use Rattle.hfs_extents_tests.proofs.growing.blocks_of.Given as goal

abbrev pub invariant-loop-i : goal.invariant-loop-i
invariant-loop-i l = record {
  within : l.i ≤ length l.extents;
  few : l.total ≤ 65535;
  counted : l.total ≡ block_total (take l.i l.extents);
}
