-- No path is there.
use Rattle.std.proofs.Common.{◌≡◌, ℕ, ◌≤◌, ◌-◌, None, length, slice_index_or}
use Rattle.hfs_remains_places.proofs.placing.no_paths.Given as goal

abbrev pub invariant-loop-paths : goal.invariant-loop-paths
invariant-loop-paths l = record {
  none : (i : ℕ) → slice_index_or l.paths.items i None ≡ None;
  few : length l.paths.items ≤ l.count;
}

abbrev pub decreases-loop-paths : goal.decreases-loop-paths
decreases-loop-paths l = l.count - length l.paths.items
