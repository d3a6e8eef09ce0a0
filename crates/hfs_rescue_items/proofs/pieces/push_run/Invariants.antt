-- the pieces so far and what is left of the run are all; it is in reach if the run is
use Rattle.std.proofs.Common.{true, ◌≡◌, ℕ, List, ◌++◌}
use Rattle.hfs_bag.specs.Forks.{first_bytes, pieces_bytes}
use Rattle.hfs_rescue_items.specs.Faults.{IsRunInReach}
use Rattle.hfs_rescue_items.proofs.pieces.push_run.Given as goal

abbrev pub invariant-loop-left : goal.invariant-loop-left
invariant-loop-left l = record {
  bytes : (image : List ℕ)
      → pieces_bytes true image l.pieces.items ++ first_bytes true image l.next l.left ≡ pieces_bytes true image l.fn.pieces.items ++ first_bytes true image l.fn.first l.count;
  reach : IsRunInReach l.fn.first l.count → IsRunInReach l.next l.left;
}

abbrev pub decreases-loop-left : goal.decreases-loop-left
decreases-loop-left l = l.left
