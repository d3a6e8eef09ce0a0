-- The threes so far begin before the block.
use Rattle.std.proofs.Common.{length, ◌-◌}
use Rattle.hfs_record_edits.proofs.ThreeLemmas.{IsLeftTo}
use Rattle.hfs_record_edits.proofs.threes.threes_left.Given as goal

abbrev pub invariant-loop-left : goal.invariant-loop-left
invariant-loop-left l = IsLeftTo l.count l.extents l.left l.blocks

abbrev pub decreases-loop-left : goal.decreases-loop-left
decreases-loop-left l = length l.extents - l.left
