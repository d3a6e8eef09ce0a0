-- No place is noted.
use Rattle.std.proofs.Common.{◌≡◌, ℕ, ◌≤◌, ◌-◌, None, length, slice_index_or}
use Rattle.hfs_remains.proofs.fork_extents.no_places.Given as goal

abbrev pub invariant-loop-places : goal.invariant-loop-places
invariant-loop-places l = record {
  none : (block : ℕ) → slice_index_or l.places.items block None ≡ None;
  few : length l.places.items ≤ 65536;
}

abbrev pub decreases-loop-places : goal.decreases-loop-places
decreases-loop-places l = 65536 - length l.places.items
