use Rattle.std.proofs.Common.{◌≡◌, ℕ, ◌-◌, ◌<◌, ◌≤◌, true, false}
use Rattle.hfs_format.specs.Wanted.{has_blocks}
use Rattle.hfs_format.proofs.least.least_with_blocks.Given as goal

abbrev pub invariant-loop-low : goal.invariant-loop-low
invariant-loop-low l = record {
  low : l.first ≤ l.low;
  order : l.low ≤ l.high;
  high : l.high ≤ l.last;
  enough : has_blocks l.wanted l.high ≡ true;
  none : (n : ℕ) → l.first ≤ n → n < l.low → has_blocks l.wanted n ≡ false;
}

abbrev pub decreases-loop-low : goal.decreases-loop-low
decreases-loop-low l = l.high - l.low
