-- The power that is left over where the first bits of a byte are set.
use Rattle.std.proofs.Common.{◌≡◌, ℕ, ◌-◌, ◌*◌, ◌^◌, ◌%◌, ◌≤◌, ◌∙◌, arith}
use Rattle.std.proofs.Math.Nat.{pow-le-pow_right, one-le-pow, mod-eq_of_lt}

pub some-left : (bits : ℕ) → 1 ≤ 2 ^ (8 - bits)
some-left bits = one-le-pow (8 - bits) 2 (omega arith)

pub few-left : (bits : ℕ) → 2 ^ (8 - bits) ≤ 256
few-left bits = let less : 8 - bits ≤ 8 = omega arith in pow-le-pow_right {n = 2} (omega arith) less

pub no-bit-lost : (bits : ℕ) → 1 * 2 ^ (8 - bits) % 4294967296 ≡ 2 ^ (8 - bits)
no-bit-lost bits =
    let few = few-left bits in
    let once : 1 * 2 ^ (8 - bits) ≡ 2 ^ (8 - bits) = omega arith in
    mod-eq_of_lt (omega (arith, few, once)) ∙ once

pub ruleset left_over = (some-left, few-left, no-bit-lost)
