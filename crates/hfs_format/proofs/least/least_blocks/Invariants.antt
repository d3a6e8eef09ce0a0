use Rattle.std.proofs.Common.{◌≡◌, ℕ, ◌-◌, ◌<◌, ◌≤◌, false}
use Rattle.hfs_format.specs.Wanted.{holds_all}
use Rattle.hfs_format.proofs.least.least_blocks.Given as goal

abbrev pub invariant-loop-first : goal.invariant-loop-first
invariant-loop-first l = record {
  after : l.from ≤ l.first;
  none : (n : ℕ) → l.from ≤ n → n < l.first → holds_all l.nodes l.items n ≡ false;
}

abbrev pub decreases-loop-first : goal.decreases-loop-first
decreases-loop-first l = 4194305 - l.first
