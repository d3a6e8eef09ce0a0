-- So many have blocks that follow each other.
use Rattle.std.proofs.Common.{◌-◌, ◌≤◌, ◌+◌, length}
use Rattle.hfs_remains_forks.specs.FileReads.{LieBeside}
use Rattle.hfs_remains_forks.proofs.gathering.side_by_side.Given as goal

abbrev pub invariant-loop-k : goal.invariant-loop-k
invariant-loop-k l = record {
  some : 1 ≤ l.k;
  few : l.i + l.k ≤ length l.file;
  beside : LieBeside l.file l.i l.b l.k;
}

abbrev pub decreases-loop-k : goal.decreases-loop-k
decreases-loop-k l = length l.file - l.k
