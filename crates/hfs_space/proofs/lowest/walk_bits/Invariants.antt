-- The blocks so far are searched, and too few are free before the next one.
use Rattle.std.proofs.Common.{◌+◌, ◌<◌, ◌≤◌}
use Rattle.hfs_space.specs.Bitmap.{is_used}
use Rattle.hfs_space.specs.FreeRuns.{IsSearched, is_taken}
use Rattle.hfs_space.proofs.lowest.walk_bits.Given as goal

abbrev pub invariant-loop-bit : goal.invariant-loop-bit
invariant-loop-bit g l = record {
  few : l.free < l.count;
  reach : l.free ≤ l.fn.walked.end + l.bit;
  searched : IsSearched (is_taken (is_used (g.B.Blocks.blocks l.bitmap.blocks.now) l.bitmap.start) l.taken) l.bitmap.count l.count (l.fn.walked.end + l.bit) l.free;
}
