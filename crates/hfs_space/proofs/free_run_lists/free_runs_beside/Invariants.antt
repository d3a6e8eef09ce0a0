-- The runs of the blocks so far; and the bytes in which the next one's bit stands, unless these are to be read.
use Rattle.std.proofs.Common.{◌≡◌, ◌≢◌, ◌+◌, ◌*◌, ◌/◌, ◌%◌, min}
use Rattle.hfs_space.specs.Bitmap.{is_used}
use Rattle.hfs_space.specs.FreeRuns.{IsRunning, is_taken}
use Rattle.hfs_space.proofs.free_run_lists.free_runs_beside.Given as goal

abbrev pub invariant-loop-byte : goal.invariant-loop-byte
invariant-loop-byte g l = record {
  running : IsRunning (is_taken (is_used (g.B.Blocks.blocks l.bitmap.blocks.now) l.bitmap.start) l.taken) l.bitmap.count (min l.bitmap.count (l.byte * 8)) l.free l.runs.items;
  here : l.byte * 8 ≢ 0 → l.byte * 8 % 4096 ≢ 0 → l.bytes ≡ g.B.Blocks.blocks l.bitmap.blocks.now (l.bitmap.start + l.byte * 8 / 4096);
}
