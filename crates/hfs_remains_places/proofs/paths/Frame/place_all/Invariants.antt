-- The paths so far are right, and those of the folders so far are known.
use Rattle.std.proofs.Common.{◌≡◌, ℕ, ◌<◌, true, length}
use Rattle.hfs_remains_places.specs.Paths.{AreRight, IsKnown, is_folder_at}
use Rattle.hfs_remains_places.proofs.paths.Frame.place_all.Given as goal

abbrev pub invariant-loop-i : goal.invariant-loop-i
invariant-loop-i l = record {
  all : length l.paths ≡ length l.self.things.now;
  right : AreRight l.self.things.now l.paths;
  known : (k : ℕ) → k < l.i → is_folder_at l.self.things.now k ≡ true → IsKnown l.paths k;
}
