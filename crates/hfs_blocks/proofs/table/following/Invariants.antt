-- So many numbers follow one another.
use Rattle.std.proofs.Common.{◌<◌, ◌≤◌, ◌-◌, ◌+◌, ◌^◌, length, get_or}
use Rattle.hfs_blocks.specs.Tables.{FollowFrom}
use Rattle.hfs_blocks.proofs.table.following.Given as goal

abbrev pub invariant-loop-count : goal.invariant-loop-count
invariant-loop-count l = record {
  some : 0 < l.count;
  within : l.at + l.count ≤ length l.numbers;
  follow : FollowFrom l.numbers l.at l.count;
  small : get_or l.numbers l.at 0 + l.count ≤ 2 ^ 32;
}

abbrev pub decreases-loop-count : goal.decreases-loop-count
decreases-loop-count l = length l.numbers - (l.at + l.count)
