-- The bits of a row of which the first are set.
use Rattle.std.proofs.Common.{◌≡◌, ℕ, zero, suc, ◌+◌, ◌-◌, ◌*◌, ◌/◌, ◌%◌, ◌^◌, ◌<◌, ◌≤◌, inl, inr, Bool, true, false, not, cond, List, refl, sym, ap, ◌∙◌, arith}
use Rattle.std.specs.Prelude.{◌==◌, nat_lt, min, slice_index}
use Rattle.std.specs.Int.{bit_at}
use Rattle.std.proofs.Math.Nat.{min-le_left, min-le_right, le-min}
use Rattle.std.proofs.lemmas.List.FromFn.{get_or-map-range_with_len}
use Rattle.std.proofs.lemmas.Bool.{cases_Bool, lt-ltb, le-ltb, ltb-true, ltb-false}
use Rattle.hfs_btree.specs.Node.{each_below}
use Rattle.hfs_btree.proofs.BelowLemmas.{each_below-at}
use Rattle.hfs_btree.specs.Header.{bit_of}
use Rattle.hfs_space.specs.Bitmap.{is_used, count_below, clear_count}
use Rattle.hfs_space.proofs.CountingLemmas.{count_below-suc, count_below-same}
use Rattle.hfs_format.specs.BitRow.{bit_row_byte, bit_row}

-- ---- one byte

abbrev same_truth : Bool → Bool → Bool
same_truth true b = b
same_truth false b = not b

same_truth-is : (a b : Bool) → same_truth a b ≡ true → a ≡ b
same_truth-is true true h = refl
same_truth-is true false h = sym h
same_truth-is false true h = h
same_truth-is false false h = refl

-- whether bit r of the byte whose first m bits are set is as it should be
abbrev bit_agrees : ℕ → ℕ → Bool
bit_agrees m r = same_truth ((256 - 2 ^ (8 - m)) / 2 ^ (7 - r) % 2 == 1) (nat_lt r m)

all-agree : each_below 9 (λ m. each_below 8 (bit_agrees m)) ≡ true
all-agree = refl

byte-bit : (m r : ℕ) → m < 9 → r < 8 → ((256 - 2 ^ (8 - m)) / 2 ^ (7 - r) % 2 == 1) ≡ nat_lt r m
byte-bit m r few short =
    same_truth-is _ _ (each_below-at (bit_agrees m) 8 r (each_below-at (λ m. each_below 8 (bit_agrees m)) 9 m all-agree few) short)

-- bit i stands in byte i / 8
place-below : (n i : ℕ) → nat_lt (i % 8) (min 8 (n - 8 * (i / 8))) ≡ nat_lt i n
place-below n i =
    let most = min-le_left 8 (n - 8 * (i / 8)) in
    let rest = min-le_right 8 (n - 8 * (i / 8)) in
    elim (cases_Bool (nat_lt i n)) [
      | inl below ↦
          let lt = ltb-true i n below in
          let room : i % 8 + 1 ≤ min 8 (n - 8 * (i / 8)) = le-min {k = i % 8 + 1} (omega arith) (omega arith) in
          lt-ltb _ _ (omega arith) ∙ sym below
      | inr above ↦ let le = ltb-false i n above in le-ltb _ _ (omega arith) ∙ sym above
    ]

pub bit_row_byte-bit : (n i : ℕ) → (bit_row_byte n (i / 8) / 2 ^ (7 - i % 8) % 2 == 1) ≡ nat_lt i n
unfolding bit_row_byte
bit_row_byte-bit n i =
    let most = min-le_left 8 (n - 8 * (i / 8)) in
    byte-bit (min 8 (n - 8 * (i / 8))) (i % 8) (omega arith) (omega arith) ∙ place-below n i

-- ---- a row

pub slice_index-bit_row : (n first count j k : ℕ) → j < count → first + j ≡ k → slice_index (bit_row n first count) j ≡ bit_row_byte n k
unfolding bit_row
slice_index-bit_row n first count j k lt e = get_or-map-range_with_len (bit_row_byte n) first count j k 0 lt e

-- in a row from its beginning
pub bit_of-bit_row : (n count i : ℕ) → i < 8 * count → bit_of (bit_row n 0 count) i ≡ nat_lt i n
bit_of-bit_row n count i lt =
    ap (λ byte. byte / 2 ^ (7 - i % 8) % 2 == 1) (slice_index-bit_row n 0 count (i / 8) (i / 8) (omega arith) (omega arith))
    ∙ bit_row_byte-bit n i

-- in a row that is cut into blocks
pub is_used-bit_rows : (blocks : ℕ → List ℕ) (start n k : ℕ) → blocks (start + k / 4096) ≡ bit_row n (512 * (k / 4096)) 512 → is_used blocks start k ≡ nat_lt k n
is_used-bit_rows blocks start n k row =
    let byte = slice_index-bit_row n (512 * (k / 4096)) 512 (k % 4096 / 8) (k / 8) (omega arith) (omega arith) in
    let bit : k % 4096 % 8 ≡ k % 8 = omega arith in
    (λ i. bit_at (slice_index (row i) (k % 4096 / 8)) (7 - bit i) == 1)
    ∙ ap (λ b. bit_at b (7 - k % 8) == 1) byte
    ∙ bit_row_byte-bit n k

-- ---- how many are clear

abbrev pub one_if : Bool → ℕ
one_if b = cond b 1 0

not-below : (n total : ℕ) → count_below (λ k. not (nat_lt k n)) total ≡ total - n
not-below n zero = omega arith
not-below n (suc total) =
    let more = count_below-suc (λ k. not (nat_lt k n)) total in
    let before = not-below n total in
    elim (cases_Bool (nat_lt total n)) [
      | inl below ↦
          let lt = ltb-true total n below in
          let none : one_if (not (nat_lt total n)) ≡ 0 = ap (λ b. one_if (not b)) below in
          omega (arith, more, before, none)
      | inr above ↦
          let le = ltb-false total n above in
          let one : one_if (not (nat_lt total n)) ≡ 1 = ap (λ b. one_if (not b)) above in
          omega (arith, more, before, one)
    ]

-- where the first n of so many tests hold
pub count_below-clear : (test : ℕ → Bool) (n total : ℕ) → ((k : ℕ) → k < total → test k ≡ nat_lt k n) → count_below (λ k. not (test k)) total ≡ total - n
count_below-clear test n total same =
    count_below-same (λ k. not (test k)) (λ k. not (nat_lt k n)) total (λ k lt. ap not (same k lt)) ∙ not-below n total

pub clear_count-bit_rows : (blocks : ℕ → List ℕ) (start n total : ℕ)
    → ((k : ℕ) → k < total → blocks (start + k / 4096) ≡ bit_row n (512 * (k / 4096)) 512) → clear_count blocks start total ≡ total - n
clear_count-bit_rows blocks start n total rows =
    count_below-clear (is_used blocks start) n total (λ k lt. is_used-bit_rows blocks start n k (rows k lt))
