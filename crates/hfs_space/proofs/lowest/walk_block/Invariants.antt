-- The blocks so far are searched, and too few are free before the next one.
use Rattle.std.proofs.Common.{◌≡◌, ◌-◌, ◌%◌, ◌<◌, ◌≤◌}
use Rattle.hfs_space.specs.Bitmap.{is_used}
use Rattle.hfs_space.specs.FreeRuns.{IsSearched, is_taken}
use Rattle.hfs_space.proofs.lowest.walk_block.Given as goal

abbrev pub invariant-loop-passed : goal.invariant-loop-passed
invariant-loop-passed g l = record {
  few : l.passed.free < l.count;
  from : l.fn.walked.end ≤ l.passed.end;
  within : l.passed.end ≤ l.end;
  whole : l.passed.end < l.end → l.passed.end % 8 ≡ 0;
  searched : IsSearched (is_taken (is_used (g.B.Blocks.blocks l.bitmap.blocks.now) l.bitmap.start) l.taken) l.bitmap.count l.count l.passed.end l.passed.free;
}

abbrev pub decreases-loop-passed : goal.decreases-loop-passed
decreases-loop-passed g l = l.end - l.passed.end
