-- The blocks before this one are none of these.
use Rattle.std.proofs.Common.{◌≡◌, ℕ, ◌≤◌, ◌<◌, false}
use Rattle.std.specs.Prelude.{is_some}
use Rattle.hfs_blocks.specs.Layers.{changes}
use Rattle.hfs_viewers.proofs.changed.has_block_of.Given as goal

abbrev pub invariant-loop-n : goal.invariant-loop-n
invariant-loop-n l = record {
  from : l.first ≤ l.n;
  none : (k : ℕ) → l.first ≤ k → k < l.n → is_some (changes l.changes k) ≡ false;
}
