-- Bits of bytes, and what clearing one does.
use Rattle.std.proofs.Common.{◌≡◌, ◌≢◌, ℕ, zero, suc, ◌+◌, ◌-◌, ◌*◌, ◌/◌, ◌%◌, ◌^◌, ◌<◌, ◌≤◌, ◌⊎◌, inl, inr, ⊎_elim, Bool, false, cond, not, List, length, get_or, set, take, length-take, refl, sym, ap, ◌∙◌, arith}
use Rattle.std.specs.Prelude.{◌==◌, bit_and}
use Rattle.std.specs.Int.{bit_at, bit_not, w8}
use Rattle.std.specs.Int.RustNames.{count_ones}
use lib.Count.{ones_step}
use Rattle.std.proofs.lemmas.Nat.{ones_le_self}
use Rattle.std.proofs.lemmas.Nat.Bits.{bit_at_lowest, bit_at-suc, bit_at-lt, bit_at_not, bit_at_clear_same, bit_at_clear_other}
use Rattle.std.proofs.lemmas.Bool.{cases_eq}
use Rattle.std.proofs.lemmas.List.{get_or-take, get_or-set_same, get_or-set_other}
use Rattle.hfs_space.specs.Bitmap.{is_marked, count_below}
use Rattle.hfs_space.proofs.CountingLemmas.{count_below-add, count_below-same, count_below-suc}

-- the first k of these numbers together
abbrev sum_to : ℕ → (ℕ → ℕ) → ℕ
sum_to zero f = 0
sum_to (suc k) f = f 0 + sum_to k (λ i. f (suc i))

-- the set bits of a number of k bits are counted one by one
ones-bits : (k n : ℕ) → n < 2 ^ k → count_ones n ≡ sum_to k (bit_at n)
ones-bits zero n h = omega (arith, ones_le_self n)
ones-bits (suc k) n h =
    ones_step n ∙ (λ j. sym (bit_at_lowest n) j + ones-bits k (n / 2) (omega arith) j)
    ∙ ap (λ f. bit_at n 0 + sum_to k f) (λ j i. sym (bit_at-suc n i) j)

clear_one : (y : ℕ) → y < 2 → cond (not (y == 1)) 1 0 ≡ 1 - y
clear_one zero h = refl
clear_one (suc zero) h = refl
clear_one (suc (suc y)) h = absurd (omega arith)

reversed : (a b c d e f g h p q r s t u v w : ℕ) → a ≡ p → b ≡ q → c ≡ r → d ≡ s → e ≡ t → f ≡ u → g ≡ v → h ≡ w
    → a + (b + (c + (d + (e + (f + (g + (h + 0))))))) ≡ 0 + w + v + u + t + s + r + q + p
reversed a b c d e f g h p q r s t u v w e1 e2 e3 e4 e5 e6 e7 e8 = omega arith

-- the clear bits of a byte, counted from the most significant one on
pub ones-not : (b : ℕ) → b < 256 → count_ones (255 - b) ≡ count_below (λ j. not (bit_at b (7 - j) == 1)) 8
ones-not b small =
    let bit = λ (i : ℕ) (h : i < 8). bit_at_not w8 b i small h ∙ sym (clear_one (bit_at b i) (bit_at-lt b i)) in
    ones-bits 8 (255 - b) (omega arith)
    ∙ reversed _ _ _ _ _ _ _ _ _ _ _ _ _ _ _ _ (bit 0 (omega arith)) (bit 1 (omega arith)) (bit 2 (omega arith)) (bit 3 (omega arith)) (bit 4 (omega arith)) (bit 5 (omega arith)) (bit 6 (omega arith)) (bit 7 (omega arith))

-- the clear bits of one more byte
pub clear-byte : (bytes : List ℕ) (i n : ℕ) → n ≡ 8 * (i + 1) → get_or bytes i 0 < 256
    → count_below (λ k. not (is_marked bytes k)) n ≡ count_below (λ k. not (is_marked bytes k)) (8 * i) + count_ones (255 - get_or bytes i 0)
clear-byte bytes i n e small =
    let split = count_below-add (λ k. not (is_marked bytes k)) (8 * i) 8 in
    let here = count_below-same (λ j. not (is_marked bytes (8 * i + j))) (λ j. not (bit_at (get_or bytes i 0) (7 - j) == 1)) 8
    (λ j h. let at : (8 * i + j) / 8 ≡ i = omega arith in let place : (8 * i + j) % 8 ≡ j = omega arith in (λ t. not (bit_at (get_or bytes (at t) 0) (7 - place t) == 1))) in
    let len = ap (count_below (λ k. not (is_marked bytes k))) (let s : n ≡ 8 * i + 8 = omega arith in s) in
    let byte = ones-not (get_or bytes i 0) small in
    omega (arith, split, here, len, byte)

-- the bytes with bit i cleared
abbrev pub with_clear : List ℕ → ℕ → List ℕ
with_clear bytes i = set bytes (i / 8) (bit_and (get_or bytes (i / 8) 0) (bit_not w8 (1 * 2 ^ (7 - i % 8) % 256)))

pub is_marked-with_clear_same : (bytes : List ℕ) (i : ℕ) → i < 8 * length bytes → is_marked (with_clear bytes i) i ≡ false
is_marked-with_clear_same bytes i within =
    let lt : i / 8 < length bytes = omega arith in
    ap (λ b. bit_at b (7 - i % 8) == 1) (get_or-set_same bytes (i / 8) _ 0 lt)
    ∙ ap (λ x. x == 1) (bit_at_clear_same w8 (get_or bytes (i / 8) 0) (7 - i % 8) (omega arith))

pub is_marked-with_clear_other : (bytes : List ℕ) (i k : ℕ) → i < 8 * length bytes → (k < i) ⊎ (i < k) → is_marked (with_clear bytes i) k ≡ is_marked bytes k
is_marked-with_clear_other bytes i k within apart = ⊎_elim
    (λ same.
    let lt : i / 8 < length bytes = omega arith in
    let ne : 7 - k % 8 ≢ 7 - i % 8 = λ e. elim apart [ inl h ↦ omega arith | inr h ↦ omega arith ] in
    ap (λ p. bit_at (get_or (with_clear bytes i) p 0) (7 - k % 8) == 1) same
    ∙ ap (λ b. bit_at b (7 - k % 8) == 1) (get_or-set_same bytes (i / 8) _ 0 lt)
    ∙ ap (λ x. x == 1) (bit_at_clear_other w8 (get_or bytes (i / 8) 0) (7 - i % 8) (omega arith) (7 - k % 8) (omega arith) ne)
    ∙ ap (λ p. bit_at (get_or bytes p 0) (7 - k % 8) == 1) (sym same))
    (λ other. ap (λ b. bit_at b (7 - k % 8) == 1) (get_or-set_other bytes (i / 8) (k / 8) _ 0 other))
    (cases_eq (k / 8) (i / 8))

-- one more bit
pub clear-bit : (bytes : List ℕ) (i : ℕ) (b : Bool) → b ≡ is_marked bytes i
    → count_below (λ k. not (is_marked bytes k)) (i + 1) ≡ count_below (λ k. not (is_marked bytes k)) i + cond (not b) 1 0
clear-bit bytes i b is =
    ap (count_below (λ k. not (is_marked bytes k))) (let e : i + 1 ≡ suc i = omega arith in e) ∙ count_below-suc _ i
    ∙ ap (λ t. count_below (λ k. not (is_marked bytes k)) i + cond (not t) 1 0) (sym is)

-- the first bytes have the first bits
pub clear-front : (bytes : List ℕ) (m n : ℕ) → m ≤ length bytes → n ≡ 8 * m
    → count_below (λ k. not (is_marked (take m bytes) k)) (8 * length (take m bytes)) ≡ count_below (λ k. not (is_marked bytes k)) n
clear-front bytes m n fits e =
    ap (count_below (λ k. not (is_marked (take m bytes) k))) (let l : 8 * length (take m bytes) ≡ n = omega (arith, length-take m bytes) in l)
    ∙ count_below-same _ _ n (λ k h. ap (λ b. not (bit_at b (7 - k % 8) == 1)) (get_or-take m bytes (k / 8) 0 (omega arith)))
