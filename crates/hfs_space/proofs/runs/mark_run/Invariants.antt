-- The run so far is marked, and ends before this block.
use Rattle.std.proofs.Common.{◌≡◌, take}
use Rattle.hfs_space.specs.Extents.{block_total, run_on}
use Rattle.hfs_space.specs.Runs.{AddsMarks}
use Rattle.hfs_space.proofs.RunSteps.{run_end}
use Rattle.hfs_space.proofs.runs.mark_run.Given as goal

abbrev pub invariant-loop-i : goal.invariant-loop-i
invariant-loop-i l = record {
  ends : l.block ≡ run_end l.file l.fork (block_total l.first) (take l.i l.overflow);
  marked : AddsMarks l.overflow (run_on l.file l.fork (block_total l.first) (take l.i l.overflow)) l.initial.marks l.marks;
}
