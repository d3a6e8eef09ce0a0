-- The runs of the blocks so far.
use Rattle.std.proofs.Common.{◌+◌}
use Rattle.hfs_space.specs.Bitmap.{is_used}
use Rattle.hfs_space.specs.FreeRuns.{IsRunning, is_taken}
use Rattle.hfs_space.proofs.free_run_lists.pass_bits.Given as goal

abbrev pub invariant-loop-bit : goal.invariant-loop-bit
invariant-loop-bit g l = record {
  running : IsRunning (is_taken (is_used (g.B.Blocks.blocks l.bitmap.blocks.now) l.bitmap.start) l.taken) l.bitmap.count (l.first + l.bit) l.free l.runs.items;
}
