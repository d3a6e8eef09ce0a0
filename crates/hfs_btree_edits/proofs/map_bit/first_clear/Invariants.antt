use Rattle.std.proofs.Common.{◌≡◌, ℕ, ◌<◌, true}
use Rattle.hfs_btree.specs.Header.{bit_of}
use Rattle.hfs_btree_edits.proofs.map_bit.first_clear.Given as goal

abbrev pub invariant-loop-i : goal.invariant-loop-i
invariant-loop-i l = (k : ℕ) → k < l.i → bit_of l.bytes k ≡ true
