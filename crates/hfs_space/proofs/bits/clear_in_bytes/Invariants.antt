-- The clear bits of the bytes so far are counted.
use Rattle.std.proofs.Common.{◌≡◌, ◌*◌, ◌≤◌, not}
use Rattle.hfs_space.specs.Bitmap.{count_below, is_marked}
use Rattle.hfs_space.proofs.bits.clear_in_bytes.Given as goal

abbrev pub invariant-loop-byte : goal.invariant-loop-byte
invariant-loop-byte l = record {
  counted : l.clear ≡ count_below (λ i. not (is_marked l.bytes i)) (8 * l.byte-index);
  few : l.clear ≤ 8 * l.byte-index;
}
