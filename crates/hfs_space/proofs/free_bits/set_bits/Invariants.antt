-- The bits up to this one are set, and the others as they were.
use Rattle.std.proofs.Common.{◌≡◌, ℕ, ◌<◌, ◌≤◌, ◌⊎◌, true}
use Rattle.hfs_space.specs.Bitmap.{is_marked}
use Rattle.hfs_space.proofs.free_bits.set_bits.Given as goal

abbrev pub invariant-loop-i : goal.invariant-loop-i
invariant-loop-i l = record {
  set : (k : ℕ) → l.first ≤ k → k < l.i → is_marked l.bytes k ≡ true;
  others : (k : ℕ) → (k < l.first) ⊎ (l.i ≤ k) → is_marked l.bytes k ≡ is_marked l.initial.bytes k;
}
