-- the blocks are what the extents from this one on say
use Rattle.std.proofs.Common.{◌≡◌, ℕ, ◌<◌, ◌≤◌, length, drop}
use Rattle.std.specs.Prelude.{slice_index_or}
use Rattle.hfs_page.specs.declared.parts.BlockUse.{BlockUse}
use Rattle.hfs_page.specs.Uses.{use_by}
use Rattle.hfs_page.proofs.uses.lay_all.Given as goal

abbrev pub invariant-loop-left : goal.invariant-loop-left
invariant-loop-left l = record {
  within : l.left ≤ length l.holdings;
  len : length l.uses ≡ length l.initial.uses;
  used : (k : ℕ) (none : BlockUse) → k < length l.initial.uses
      → slice_index_or l.uses k none ≡ use_by (drop l.left l.holdings) (slice_index_or l.initial.uses k none) k;
}

abbrev pub decreases-loop-left : goal.decreases-loop-left
decreases-loop-left l = l.left
