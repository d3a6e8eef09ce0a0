-- the blocks so far are set
use Rattle.std.proofs.Common.{◌≡◌, ℕ, ◌<◌, ◌&&◌, length}
use Rattle.std.specs.Prelude.{nat_le, nat_lt, if◌then◌else◌, slice_index_or}
use Rattle.hfs_page.specs.declared.parts.BlockUse.{BlockUse}
use Rattle.hfs_page.proofs.uses.lay.Given as goal

abbrev pub invariant-loop-block : goal.invariant-loop-block
invariant-loop-block l = record {
  len : length l.uses ≡ length l.initial.uses;
  laid : (k : ℕ) (none : BlockUse) → k < length l.initial.uses
      → slice_index_or l.uses k none ≡ (if nat_le l.first k && nat_lt k l.block then l.holding.used else slice_index_or l.initial.uses k none);
}
