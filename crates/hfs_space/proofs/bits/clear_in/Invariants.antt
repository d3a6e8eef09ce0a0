-- The clear bits so far are counted.
use Rattle.std.proofs.Common.{◌≡◌, ◌≤◌, not}
use Rattle.hfs_space.specs.Bitmap.{count_below, is_marked}
use Rattle.hfs_space.proofs.bits.clear_in.Given as goal

abbrev pub invariant-loop-i : goal.invariant-loop-i
invariant-loop-i l = record {
  counted : l.clear ≡ count_below (λ k. not (is_marked l.bytes k)) l.i;
  few : l.clear ≤ l.i;
}
