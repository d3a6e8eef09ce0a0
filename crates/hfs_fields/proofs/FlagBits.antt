-- What the bits of a file's flags are after one is set or cleared: tried on each of the 256 bytes.
use Rattle.std.proofs.Common.{◌≡◌, ℕ, zero, suc, ◌<◌, Bool, true, false, not, ◌&&◌, refl, sym, ap, ◌∙◌, arith}
use Rattle.std.specs.Prelude.{◌==◌}
use Rattle.std.specs.Int.RustNames.{bit_and, bit_or}
use Rattle.std.proofs.lemmas.Bool.{eqb-true}
use Rattle.bitflags.specs.Sets.{without}
use Rattle.hfs_fields.specs.Records.{is_bit_set, with_bit}
use Rattle.hfs_fields.proofs.CommonLemmas.{each_below, at-each}

same-bools : Bool → Bool → Bool
same-bools true b = b
same-bools false b = not b

bools-same : (a b : Bool) → same-bools a b ≡ true → a ≡ b
unfolding same-bools
bools-same true b e = sym e
bools-same false true e = cc
bools-same false false e = refl

thread-test : ℕ → Bool
thread-test flags = same-bools (bit_and flags 2 == 2) (is_bit_set 1 flags)

set-test : ℕ → ℕ → ℕ → Bool
set-test k mask flags = bit_or flags mask == with_bit k true flags

clear-test : ℕ → ℕ → ℕ → Bool
clear-test k mask flags = without 8 flags mask == with_bit k false flags

pub thread-bit : (flags : ℕ) → flags < 256 → (bit_and flags 2 == 2) ≡ is_bit_set 1 flags
unfolding each_below thread-test same-bools
thread-bit flags small = bools-same _ _ (at-each 256 thread-test refl flags small)

pub lock-set : (flags : ℕ) → flags < 256 → bit_or flags 1 ≡ with_bit 0 true flags
unfolding each_below set-test
lock-set flags small = eqb-true _ _ (at-each 256 (set-test 0 1) refl flags small)

pub lock-cleared : (flags : ℕ) → flags < 256 → without 8 flags 1 ≡ with_bit 0 false flags
unfolding each_below clear-test
lock-cleared flags small = eqb-true _ _ (at-each 256 (clear-test 0 1) refl flags small)

pub thread-set : (flags : ℕ) → flags < 256 → bit_or flags 2 ≡ with_bit 1 true flags
unfolding each_below set-test
thread-set flags small = eqb-true _ _ (at-each 256 (set-test 1 2) refl flags small)

pub thread-cleared : (flags : ℕ) → flags < 256 → without 8 flags 2 ≡ with_bit 1 false flags
unfolding each_below clear-test
thread-cleared flags small = eqb-true _ _ (at-each 256 (clear-test 1 2) refl flags small)
