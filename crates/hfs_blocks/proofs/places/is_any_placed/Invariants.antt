-- None of the blocks before this one has a place.
use Rattle.std.proofs.Common.{◌≤◌, ◌-◌, ◌+◌}
use Rattle.hfs_blocks.specs.Places.{HaveNone}
use Rattle.hfs_blocks.proofs.places.is_any_placed.Given as goal

abbrev pub invariant-loop-n : goal.invariant-loop-n
invariant-loop-n l = record {
  within : l.n ≤ l.first + l.count;
  none : HaveNone l.places.entries l.first l.n;
}

abbrev pub decreases-loop-n : goal.decreases-loop-n
decreases-loop-n l = l.first + l.count - l.n
