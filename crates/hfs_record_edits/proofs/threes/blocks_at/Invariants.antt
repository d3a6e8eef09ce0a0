-- The blocks of the extents so far are counted.
use Rattle.std.proofs.Common.{◌≡◌, ◌≤◌, take, drop}
use Rattle.hfs_space.specs.Extents.{block_total}
use Rattle.hfs_record_edits.proofs.threes.blocks_at.Given as goal

abbrev pub invariant-loop-i : goal.invariant-loop-i
invariant-loop-i l = record {
  few : l.i ≤ l.count;
  counted : l.total ≡ block_total (take l.i (drop l.at l.extents));
}
