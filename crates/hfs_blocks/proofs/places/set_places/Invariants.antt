-- So many blocks have their places.
use Rattle.std.proofs.Common.{◌≤◌, ◌-◌}
use Rattle.hfs_blocks.specs.Places.{ArePlaced, KeepsRows}
use Rattle.hfs_blocks.proofs.places.set_places.Given as goal

abbrev pub invariant-loop-done : goal.invariant-loop-done
invariant-loop-done l = record {
  few : l.done ≤ l.count;
  placed : ArePlaced l.first l.done l.place l.initial.places.entries l.places.entries;
  kept : KeepsRows l.initial.places.entries l.places.entries;
}

abbrev pub decreases-loop-done : goal.decreases-loop-done
decreases-loop-done l = l.count - l.done
