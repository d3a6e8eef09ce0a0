-- the pieces so far and the blocks that are behind are all
use Rattle.std.proofs.Common.{◌≡◌, ◌+◌, ◌-◌, ◌≤◌, ◌++◌, false, List, ℕ}
use Rattle.std.specs.List.{range_with_len}
use Rattle.hfs_bag.specs.Forks.{pieces_bytes}
use Rattle.hfs_blocks.specs.Blocks.{run_of}
use Rattle.hfs_source.specs.Writing.{blocks_of}
use Rattle.hfs_word_take.proofs.pieces.push_run.Given as goal

abbrev pub invariant-loop-behind : goal.invariant-loop-behind
invariant-loop-behind l = record {
  few : l.behind ≤ l.run.count;
  bytes : (image : List ℕ) → pieces_bytes false image l.pieces.items ++ blocks_of image (range_with_len (l.run.first + (l.run.count - l.behind)) l.behind)
      ≡ pieces_bytes false image l.fn.pieces.items ++ blocks_of image (run_of l.run);
}

abbrev pub decreases-loop-behind : goal.decreases-loop-behind
decreases-loop-behind l = l.behind
