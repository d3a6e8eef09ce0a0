-- the pieces so far and the bytes of the blocks that are to come are all
use Rattle.std.proofs.Common.{true, ◌≡◌, ℕ, List, ◌++◌, drop}
use Rattle.hfs_remains_forks.specs.ForkBytes.{fork_bytes}
use Rattle.hfs_bag.specs.Forks.{pieces_bytes}
use Rattle.hfs_rescue_items.proofs.pieces.pieces_of.Given as goal

abbrev pub invariant-loop-place : goal.invariant-loop-place
invariant-loop-place l = (image : List ℕ)
    → pieces_bytes true image l.pieces.items ++ fork_bytes image l.mdb l.left (drop l.place-index l.places) ≡ fork_bytes image l.mdb l.length l.places
