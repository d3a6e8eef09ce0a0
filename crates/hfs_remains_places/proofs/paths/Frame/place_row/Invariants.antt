-- The paths so far are right, and the row is one of those that are left.
use Rattle.std.proofs.Common.{◌≡◌, length}
use Rattle.hfs_remains_places.specs.Paths.{AreRight, Keeps, IsRow}
use Rattle.hfs_remains_places.proofs.paths.Frame.place_row.Given as goal

abbrev pub invariant-loop-x : goal.invariant-loop-x
invariant-loop-x l = record {
  all : length l.paths ≡ length l.self.things.now;
  right : AreRight l.self.things.now l.paths;
  keeps : Keeps l.initial.paths l.paths;
  row : IsRow l.self.things.now l.paths l.row.items l.i;
}

abbrev pub decreases-loop-x : goal.decreases-loop-x
decreases-loop-x l = length l.row.items
