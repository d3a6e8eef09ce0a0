-- There are rows for the blocks before this one, and all places are as they were.
use Rattle.std.proofs.Common.{◌≤◌, ◌-◌, ◌+◌}
use Rattle.hfs_blocks.specs.Places.{HaveSamePlaces, KeepsRows, HaveRows}
use Rattle.hfs_blocks.proofs.places.add_rows.Given as goal

abbrev pub invariant-loop-n : goal.invariant-loop-n
invariant-loop-n l = record {
  within : l.n ≤ l.first + l.count;
  same : HaveSamePlaces l.initial.places.entries l.places.entries;
  kept : KeepsRows l.initial.places.entries l.places.entries;
  there : HaveRows l.places.entries l.first l.n;
}

abbrev pub decreases-loop-n : goal.decreases-loop-n
decreases-loop-n l = l.first + l.count - l.n
