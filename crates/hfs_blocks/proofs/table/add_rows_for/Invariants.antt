-- There are rows for the numbers before this one, and all places are as they were.
use Rattle.std.proofs.Common.{ℕ, ◌<◌, ◌≤◌, ◌-◌, length, get_or}
use Rattle.hfs_blocks.specs.Places.{HaveSamePlaces, HasRow}
use Rattle.hfs_blocks.proofs.table.add_rows_for.Given as goal

abbrev pub invariant-loop-done : goal.invariant-loop-done
invariant-loop-done l = record {
  few : l.done ≤ length l.numbers;
  same : HaveSamePlaces l.initial.places.entries l.places.entries;
  rows : (i : ℕ) → i < l.done → HasRow l.places.entries (get_or l.numbers i 0);
}

abbrev pub decreases-loop-done : goal.decreases-loop-done
decreases-loop-done l = length l.numbers - l.done
