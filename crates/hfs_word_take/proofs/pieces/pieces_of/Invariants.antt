-- the pieces so far and the runs that are to come are all
use Rattle.std.proofs.Common.{◌≡◌, ◌++◌, drop, false, List, ℕ}
use Rattle.std.specs.List.{flat_map}
use Rattle.hfs_bag.specs.Forks.{pieces_bytes}
use Rattle.hfs_blocks.specs.Blocks.{run_of}
use Rattle.hfs_source.specs.Writing.{blocks_of}
use Rattle.hfs_word_take.proofs.pieces.pieces_of.Given as goal

abbrev pub invariant-loop-run : goal.invariant-loop-run
invariant-loop-run l = (image : List ℕ)
    → pieces_bytes false image l.pieces.items ++ blocks_of image (flat_map run_of (drop l.run-index l.runs)) ≡ blocks_of image (flat_map run_of l.runs)
