-- Zeros in three parts, the first of which lies between the others.
use Rattle.std.proofs.Common.{◌≡◌, ℕ, zero, suc, ◌+◌, ◌-◌, ◌<◌, ◌≤◌, ◌⊎◌, inl, inr, List, length, get_or, sym, ◌∙◌, arith}
use Rattle.std.proofs.lemmas.Bool.{cases_lt}
use Rattle.std.proofs.lemmas.List.{length-replicate, get_or-replicate, same_lists, get_or_default}
use Rattle.hfs_space.specs.Parts.{with_part, zeros}
use Rattle.hfs_space.proofs.PartLemmas.{length-with_part, with_part-before, with_part-inside, with_part-after}

pub length-zeros : (n : ℕ) → length (zeros n) ≡ n
length-zeros n = let zero_byte : ℕ = 0 in length-replicate n zero_byte

module _ (offset n : ℕ) (bytes : List ℕ) (fits : offset + n ≤ length bytes) where
  room : offset + length (zeros n) ≤ length bytes
  room = let long = length-zeros n in omega (arith, fits, long)

  pub length-cleared : length (with_part offset (zeros n) bytes) ≡ length bytes
  length-cleared = length-with_part offset (zeros n) bytes room

  pub cleared-in : (j : ℕ) → offset ≤ j → j < offset + n → get_or (with_part offset (zeros n) bytes) j 0 ≡ 0
  cleared-in j ge lt =
      let zero_byte : ℕ = 0 in
      let long = length-zeros n in
      with_part-inside offset (zeros n) bytes room j 0 ge (omega (arith, lt, long)) ∙ get_or-replicate n (j - offset) zero_byte 0 (omega (arith, ge, lt))

  pub cleared-out : (j : ℕ) → (j < offset) ⊎ (offset + n ≤ j) → get_or (with_part offset (zeros n) bytes) j 0 ≡ get_or bytes j 0
  cleared-out j apart =
      let long = length-zeros n in
      elim apart [
        | inl low ↦ with_part-before offset (zeros n) bytes room j 0 low
        | inr high ↦ with_part-after offset (zeros n) bytes room j 0 (omega (arith, high, long))
      ]

-- a part that has no byte beside some others has none here
beside : (a p o n j : ℕ) → (0 < p → (o ≤ a) × (a + p ≤ o + n)) → (j < o) ⊎ (o + n ≤ j) → (j < a) ⊎ (a + p ≤ j)
beside a zero o n j mid apart = elim (cases_lt j a) [ inl low ↦ inl low | inr high ↦ inr (omega (arith, high)) ]
beside a (suc p) o n j mid apart =
    let both = mid (omega arith) in
    let from = both.0 in
    let to = both.1 in
    elim apart [ inl low ↦ inl (omega (arith, low, from)) | inr high ↦ inr (omega (arith, high, to)) ]

module _ (a p o f b q n : ℕ) (bytes : List ℕ) (fits : o + n ≤ length bytes) (inside : a + p ≤ length bytes) (mid : 0 < p → (o ≤ a) × (a + p ≤ o + n)) (front : f ≤ n) (back : b + q ≡ o + n) (from : o ≤ b)
    (joint : o + f < b → (a ≤ o + f) × (b ≤ a + p)) where
  abbrev pub one : List ℕ
  one = with_part a (zeros p) bytes

  abbrev pub two : List ℕ
  two = with_part o (zeros f) one

  long_one : length one ≡ length bytes
  long_one = length-cleared a p bytes inside

  fits_two : o + f ≤ length one
  fits_two = omega (arith, fits, front, long_one)

  long_two : length two ≡ length one
  long_two = length-cleared o f one fits_two

  fits_three : b + q ≤ length two
  fits_three = omega (arith, back, fits, long_one, long_two)

  by_place : (j : ℕ) → get_or (with_part b (zeros q) two) j 0 ≡ get_or (with_part o (zeros n) bytes) j 0
  by_place j = elim (cases_lt j o) [
    | inl low ↦
        cleared-out b q two fits_three j (inl (omega (arith, low, from))) ∙ cleared-out o f one fits_two j (inl low) ∙ cleared-out a p bytes inside j (beside a p o n j mid (inl low))
        ∙ sym (cleared-out o n bytes fits j (inl low))
    | inr ge ↦ elim (cases_lt j (o + n)) [
      | inr high ↦
          cleared-out b q two fits_three j (inr (omega (arith, back, high))) ∙ cleared-out o f one fits_two j (inr (omega (arith, front, high))) ∙ cleared-out a p bytes inside j (beside a p o n j mid (inr high))
          ∙ sym (cleared-out o n bytes fits j (inr high))
      | inl lt ↦ elim (cases_lt j b) [
        | inr last ↦ cleared-in b q two fits_three j last (omega (arith, back, lt)) ∙ sym (cleared-in o n bytes fits j ge lt)
        | inl less ↦ elim (cases_lt j (o + f)) [
          | inl first ↦ cleared-out b q two fits_three j (inl less) ∙ cleared-in o f one fits_two j ge first ∙ sym (cleared-in o n bytes fits j ge lt)
          | inr middle ↦
              let both = joint (omega (arith, middle, less)) in
              let low = both.0 in
              let high = both.1 in
              cleared-out b q two fits_three j (inl less) ∙ cleared-out o f one fits_two j (inr middle) ∙ cleared-in a p bytes inside j (omega (arith, low, middle)) (omega (arith, high, less))
              ∙ sym (cleared-in o n bytes fits j ge lt)
        ]
      ]
    ]
  ]

  pub zeros-cover : with_part b (zeros q) two ≡ with_part o (zeros n) bytes
  zeros-cover =
      let long_three = length-cleared b q two fits_three in
      let long = length-cleared o n bytes fits in
      same_lists (with_part b (zeros q) two) (with_part o (zeros n) bytes) (long_three ∙ long_two ∙ long_one ∙ sym long)
      (λ j d lt. get_or_default (with_part b (zeros q) two) j d 0 lt ∙ by_place j ∙ get_or_default (with_part o (zeros n) bytes) j 0 d (omega (arith, lt, long_three, long_two, long_one, long)))
