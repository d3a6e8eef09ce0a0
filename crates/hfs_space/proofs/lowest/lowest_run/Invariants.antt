-- The blocks so far are searched, and too few are free before the next one.
use Rattle.std.proofs.Common.{◌≡◌, ◌*◌, ◌<◌, min}
use Rattle.hfs_space.specs.Bitmap.{is_used}
use Rattle.hfs_space.specs.FreeRuns.{IsSearched, is_taken}
use Rattle.hfs_space.proofs.lowest.lowest_run.Given as goal

abbrev pub invariant-loop-block : goal.invariant-loop-block
invariant-loop-block g l = record {
  few : l.walked.free < l.count;
  place : l.walked.end ≡ min l.bitmap.count (l.block * 4096);
  searched : IsSearched (is_taken (is_used (g.B.Blocks.blocks l.bitmap.blocks.now) l.bitmap.start) l.taken) l.bitmap.count l.count l.walked.end l.walked.free;
}
