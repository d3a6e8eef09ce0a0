-- the pieces of the blocks from this one on
use Rattle.std.proofs.Common.{◌≡◌, drop, ◌≤◌, length}
use Rattle.std.specs.Prelude.{reverse}
use Rattle.hfs_remains_page.specs.Pictures.{pieces}
use Rattle.hfs_remains_page.proofs.pieces.turned_pieces.Given as goal

abbrev pub invariant-loop-left : goal.invariant-loop-left
invariant-loop-left l = record {
  within : l.left ≤ length l.places;
  pieces : reverse l.pieces.items ≡ pieces (drop l.left l.places);
}

abbrev pub decreases-loop-left : goal.decreases-loop-left
decreases-loop-left l = l.left
