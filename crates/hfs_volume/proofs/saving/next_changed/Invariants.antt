-- no block so far is changed
use Rattle.std.proofs.Common.{◌≡◌, ℕ, ◌<◌, ◌≤◌, is_some, false}
use Rattle.hfs_blocks.specs.Layers.{changes}
use Rattle.hfs_volume.proofs.saving.next_changed.Given as goal

abbrev pub invariant-loop-k : goal.invariant-loop-k
invariant-loop-k l = (j : ℕ) → l.n ≤ j → j < l.k → is_some (changes l.changed j) ≡ false
