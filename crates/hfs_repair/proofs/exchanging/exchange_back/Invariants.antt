use Rattle.std.proofs.Common.{◌≡◌, ◌≤◌, take, length}
use Rattle.hfs_repair.specs.Puts.{put_back}
use Rattle.hfs_repair.proofs.exchanging.exchange_back.Given as goal

abbrev pub invariant-loop-left : goal.invariant-loop-left
invariant-loop-left l = record {
  within : l.left ≤ length l.puts;
  same : put_back (take l.left l.puts) l.image ≡ put_back l.puts l.initial.image;
}

abbrev pub decreases-loop-left : goal.decreases-loop-left
decreases-loop-left l = l.left
