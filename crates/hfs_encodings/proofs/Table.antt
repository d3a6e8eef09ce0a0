-- The check is linear: where its state and the bits are the sum of two, the state behind them is the sum of what each gives. So a byte changes it by its row of the table.
use Rattle.std.proofs.Common.{◌≡◌, ◌∙◌, sym, ap, refl, ℕ, zero, suc, ◌+◌, ◌*◌, ◌/◌, ◌%◌, ◌^◌, ◌<◌, Bool, true, false, ◌&&◌, inl, inr, ◌⊎◌, List, [], ◌∷◌, slice_index, bit_xor, add-zero, arith}
use Rattle.std.specs.Prelude.{◌==◌, if◌then◌else◌}
use Rattle.std.specs.Int.{bit_at}
use Rattle.std.specs.List.{fold, flat_map}
use Rattle.std.proofs.lemmas.Nat.{xor_mod, xor_block, xor_comm}
use Rattle.std.proofs.lemmas.Nat.Bits.{bit_at_xor, bit_at-lt, same_from_bits}
use Rattle.std.proofs.lemmas.Bool.{eqb-true, cases_lt}
use Rattle.hfs_encodings.specs.Crc.{polynomial, bits_of, crc_with_bit, crc_with_byte}
use Rattle.hfs_fields.proofs.CommonLemmas.{each_below, at-each}

-- ---- sums of bits

xor-swap : (a b m n : ℕ) → bit_xor (bit_xor a b) (bit_xor m n) ≡ bit_xor (bit_xor a m) (bit_xor b n)
xor-swap a b m n = same_from_bits _ _ (λ i.
    rw (bit_at_xor (bit_xor a b) (bit_xor m n) i, bit_at_xor a b i, bit_at_xor m n i, bit_at_xor (bit_xor a m) (bit_xor b n) i, bit_at_xor a m i, bit_at_xor b n i)
    (omega arith))

xor-back : (a b : ℕ) → bit_xor a (bit_xor a b) ≡ b
xor-back a b = same_from_bits _ _ (λ i. rw (bit_at_xor a (bit_xor a b) i, bit_at_xor a b i) (omega (arith, bit_at-lt a i, bit_at-lt b i)))

xor-zero : (a : ℕ) → bit_xor a 0 ≡ a
xor-zero a = xor_comm a 0

xor-twice : (a b : ℕ) → bit_xor a b * 2 ≡ bit_xor (a * 2) (b * 2)
xor-twice a b =
    sym ((λ i. bit_xor (sym (add-zero (a * 2)) i) (sym (add-zero (b * 2)) i)) ∙ xor_block 1 a b 0 0 (omega arith) (omega arith) ∙ add-zero (bit_xor a b * 2))

-- ---- one bit

mask : ℕ → ℕ → ℕ
mask leaves comes = if leaves == comes then 0 else polynomial

bit-cases : (n : ℕ) → n < 2 → (n ≡ 0) ⊎ (n ≡ 1)
bit-cases n h = elim (cases_lt n 1) [ inl a ↦ inl (omega arith) | inr b ↦ inr (omega arith) ]

mask-linear : (t u b e : ℕ) → t < 2 → u < 2 → b < 2 → e < 2 → mask ((t + u) % 2) ((b + e) % 2) ≡ bit_xor (mask t b) (mask u e)
unfolding mask
mask-linear t u b e p q r s =
    elim (bit-cases t p) [
      | inl t-is ↦ elim (bit-cases u q) [
        | inl u-is ↦ elim (bit-cases b r) [
          | inl b-is ↦ elim (bit-cases e s) [ inl e-is ↦ rw (t-is, u-is, b-is, e-is) refl | inr e-is ↦ rw (t-is, u-is, b-is, e-is) refl ]
          | inr b-is ↦ elim (bit-cases e s) [ inl e-is ↦ rw (t-is, u-is, b-is, e-is) refl | inr e-is ↦ rw (t-is, u-is, b-is, e-is) refl ]
        ]
        | inr u-is ↦ elim (bit-cases b r) [
          | inl b-is ↦ elim (bit-cases e s) [ inl e-is ↦ rw (t-is, u-is, b-is, e-is) refl | inr e-is ↦ rw (t-is, u-is, b-is, e-is) refl ]
          | inr b-is ↦ elim (bit-cases e s) [ inl e-is ↦ rw (t-is, u-is, b-is, e-is) refl | inr e-is ↦ rw (t-is, u-is, b-is, e-is) refl ]
        ]
      ]
      | inr t-is ↦ elim (bit-cases u q) [
        | inl u-is ↦ elim (bit-cases b r) [
          | inl b-is ↦ elim (bit-cases e s) [ inl e-is ↦ rw (t-is, u-is, b-is, e-is) refl | inr e-is ↦ rw (t-is, u-is, b-is, e-is) refl ]
          | inr b-is ↦ elim (bit-cases e s) [ inl e-is ↦ rw (t-is, u-is, b-is, e-is) refl | inr e-is ↦ rw (t-is, u-is, b-is, e-is) refl ]
        ]
        | inr u-is ↦ elim (bit-cases b r) [
          | inl b-is ↦ elim (bit-cases e s) [ inl e-is ↦ rw (t-is, u-is, b-is, e-is) refl | inr e-is ↦ rw (t-is, u-is, b-is, e-is) refl ]
          | inr b-is ↦ elim (bit-cases e s) [ inl e-is ↦ rw (t-is, u-is, b-is, e-is) refl | inr e-is ↦ rw (t-is, u-is, b-is, e-is) refl ]
        ]
      ]
    ]

-- the step is the state, moved up, and a mask
step-is : (crc bit : ℕ) → crc_with_bit crc bit ≡ bit_xor (crc * 2 % 2 ^ 16) (mask (bit_at crc 15) bit)
unfolding crc_with_bit mask
step-is crc bit = refl

moved-linear : (c d : ℕ) → bit_xor c d * 2 % 2 ^ 16 ≡ bit_xor (c * 2 % 2 ^ 16) (d * 2 % 2 ^ 16)
moved-linear c d = ap (λ (n : ℕ). n % 2 ^ 16) (xor-twice c d) ∙ xor_mod (c * 2) (d * 2) 16

crc_with_bit-linear : (c d x y k : ℕ) → crc_with_bit (bit_xor c d) (bit_at (bit_xor x y) k) ≡ bit_xor (crc_with_bit c (bit_at x k)) (crc_with_bit d (bit_at y k))
crc_with_bit-linear c d x y k =
    step-is (bit_xor c d) (bit_at (bit_xor x y) k)
    ∙ (λ i. bit_xor (moved-linear c d i) (mask (bit_at_xor c d 15 i) (bit_at_xor x y k i)))
    ∙ ap (λ (m : ℕ). bit_xor (bit_xor (c * 2 % 2 ^ 16) (d * 2 % 2 ^ 16)) m)
    (mask-linear (bit_at c 15) (bit_at d 15) (bit_at x k) (bit_at y k) (bit_at-lt c 15) (bit_at-lt d 15) (bit_at-lt x k) (bit_at-lt y k))
    ∙ xor-swap (c * 2 % 2 ^ 16) (d * 2 % 2 ^ 16) (mask (bit_at c 15) (bit_at x k)) (mask (bit_at d 15) (bit_at y k))
    ∙ sym (λ i. bit_xor (step-is c (bit_at x k) i) (step-is d (bit_at y k) i))

-- ---- one byte

-- the state behind the bits of a byte from the one at a place down
after : ℕ → ℕ → ℕ → ℕ
after zero crc byte = crc_with_bit crc (bit_at byte 0)
after (suc k) crc byte = after k (crc_with_bit crc (bit_at byte (suc k))) byte

after-linear : (k c d x y : ℕ) → after k (bit_xor c d) (bit_xor x y) ≡ bit_xor (after k c x) (after k d y)
unfolding after
after-linear zero c d x y = crc_with_bit-linear c d x y 0
after-linear (suc k) c d x y =
    ap (λ (n : ℕ). after k n (bit_xor x y)) (crc_with_bit-linear c d x y (suc k))
    ∙ after-linear k (crc_with_bit c (bit_at x (suc k))) (crc_with_bit d (bit_at y (suc k))) x y

byte-is : (crc byte : ℕ) → crc_with_byte crc byte ≡ after 7 crc byte
unfolding crc_with_byte after
byte-is crc byte = refl

crc_with_byte-linear : (c d x y : ℕ) → crc_with_byte (bit_xor c d) (bit_xor x y) ≡ bit_xor (crc_with_byte c x) (crc_with_byte d y)
crc_with_byte-linear c d x y = byte-is (bit_xor c d) (bit_xor x y) ∙ after-linear 7 c d x y ∙ sym (λ i. bit_xor (byte-is c x i) (byte-is d y i))

-- a byte that meets itself leaves nothing
met-test : ℕ → Bool
met-test byte = crc_with_byte (byte * 256) byte == 0

byte-met : (byte : ℕ) → byte < 256 → crc_with_byte (byte * 256) byte ≡ 0
unfolding each_below met-test crc_with_byte crc_with_bit
byte-met byte small = eqb-true _ _ (at-each 256 met-test refl byte small)

-- the low byte moves up
low-test : ℕ → Bool
low-test low = crc_with_byte low 0 == low * 256

low-moved : (low : ℕ) → low < 256 → crc_with_byte low 0 ≡ low * 256
unfolding each_below low-test crc_with_byte crc_with_bit
low-moved low small = eqb-true _ _ (at-each 256 low-test refl low small)

-- a row of 256 numbers has the check of each byte at its place
unfoldable pub row-test : List ℕ → ℕ → Bool
row-test row byte = slice_index row byte == crc_with_byte 0 byte

pub crc_with_byte-table : (row : List ℕ) → each_below 256 (row-test row) ≡ true → (byte : ℕ) → byte < 256 → slice_index row byte ≡ crc_with_byte 0 byte
unfolding row-test
crc_with_byte-table row is byte small = eqb-true _ _ (at-each 256 (row-test row) is byte small)

-- ---- the check with a byte more, by its row

-- where the state moves up by a byte, the low byte is kept
pub low-kept : (crc : ℕ) → crc * 256 % 65536 ≡ crc % 256 * 256
low-kept crc = omega arith

state-parted : (crc : ℕ) → crc ≡ bit_xor (crc / 256 * 256) (crc % 256)
state-parted crc =
    let above : crc / 256 * 256 ≡ crc / 256 * 2 ^ 8 + 0 = omega arith in
    let below : crc % 256 ≡ 0 * 2 ^ 8 + crc % 256 = omega arith in
    let high = xor-zero (crc / 256) in
    let whole : crc ≡ bit_xor (crc / 256) 0 * 2 ^ 8 + bit_xor 0 (crc % 256) = omega (arith, high) in
    whole ∙ sym ((λ i. bit_xor (above i) (below i)) ∙ xor_block 8 (crc / 256) 0 0 (crc % 256) (omega arith) (omega arith))

pub crc_with_byte-by_row : (crc byte : ℕ) → crc < 2 ^ 16 → crc_with_byte crc byte ≡ bit_xor (crc % 256 * 256) (crc_with_byte 0 (bit_xor (crc / 256) byte))
crc_with_byte-by_row crc byte small =
    let high = crc / 256 in
    let low = crc % 256 in
    let rest = bit_xor high byte in
    (λ i. crc_with_byte ((state-parted crc ∙ sym (xor-zero (bit_xor (high * 256) low))) i) (sym (xor-back high byte) i))
    ∙ crc_with_byte-linear (bit_xor (high * 256) low) 0 high rest
    ∙ ap (λ (n : ℕ). bit_xor n (crc_with_byte 0 rest))
    (ap (λ (n : ℕ). crc_with_byte (bit_xor (high * 256) low) n) (sym (xor-zero high)) ∙ crc_with_byte-linear (high * 256) low high 0
    ∙ (λ i. bit_xor (byte-met high (omega arith) i) (low-moved low (omega arith) i)))

-- ---- the check of bytes, one after the other

pub crc16-bytes : (crc : ℕ) (bytes : List ℕ) → fold crc_with_byte crc bytes ≡ fold crc_with_bit crc (flat_map bits_of bytes)
unfolding crc_with_byte
crc16-bytes crc [] = refl
crc16-bytes crc (byte ∷ bytes) = crc16-bytes (crc_with_byte crc byte) bytes
