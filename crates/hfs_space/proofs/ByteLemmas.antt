-- Blocks whose bits stand in one byte of the bitmap.
use Rattle.std.proofs.Common.{◌≡◌, ℕ, ◌+◌, ◌-◌, ◌*◌, ◌/◌, ◌%◌, ◌<◌, ◌≤◌, Bool, true, false, List, inl, inr, sym, ap, ◌∙◌, arith}
use Rattle.std.specs.Prelude.{slice_index, ◌||◌, ◌==◌, nat_lt}
use Rattle.std.specs.Int.{bit_at}
use Rattle.std.proofs.lemmas.Nat.Bits.{bit_at-zero, bit_at_ones}
use Rattle.std.proofs.lemmas.Bool.{and_from, lt-ltb, cases_lt, true≢false}
use Rattle.hfs_fields.specs.declared.extent.Extent.{Extent}
use Rattle.hfs_space.specs.Bitmap.{is_marked, is_used}
use Rattle.hfs_space.specs.FreeRuns.{AreFull, is_in, is_taken, meets}
use Rattle.hfs_space.proofs.Counted.{is_in-outside}

module _ (blocks : ℕ → List ℕ) (start first : ℕ) (bytes : List ℕ) (whole : first % 8 ≡ 0) (here : bytes ≡ blocks (start + first / 4096)) where
  -- one of the eight is marked as its bit says
  pub marked-here : (k : ℕ) → first ≤ k → k < first + 8 → is_marked bytes (k % 4096) ≡ is_used blocks start k
  marked-here k low high =
      let same : first / 4096 ≡ k / 4096 = omega (arith, whole, low, high) in
      ap (λ (b : List ℕ). is_marked b (k % 4096)) here ∙ (λ t. is_marked (blocks (start + same t)) (k % 4096))

  -- the bit of one of the eight
  bit-here : (k : ℕ) → first ≤ k → k < first + 8 → is_used blocks start k ≡ (bit_at (slice_index bytes (first % 4096 / 8)) (7 - k % 4096 % 8) == 1)
  bit-here k low high =
      let place : k % 4096 / 8 ≡ first % 4096 / 8 = omega (arith, whole, low, high) in
      sym (marked-here k low high) ∙ (λ t. bit_at (slice_index bytes (place t)) (7 - k % 4096 % 8) == 1)

  pub byte-used : slice_index bytes (first % 4096 / 8) ≡ 255 → (k : ℕ) → first ≤ k → k < first + 8 → is_used blocks start k ≡ true
  byte-used all k low high =
      bit-here k low high
      ∙ ap (λ b. bit_at b (7 - k % 4096 % 8) == 1) all
      ∙ ap (λ (x : ℕ). x == 1) (bit_at_ones 8 (7 - k % 4096 % 8) (omega arith))

  pub byte-free : slice_index bytes (first % 4096 / 8) ≡ 0 → (k : ℕ) → first ≤ k → k < first + 8 → is_used blocks start k ≡ false
  byte-free none k low high =
      bit-here k low high
      ∙ ap (λ b. bit_at b (7 - k % 4096 % 8) == 1) none
      ∙ ap (λ (x : ℕ). x == 1) (bit_at-zero (7 - k % 4096 % 8))

-- the blocks of the first bytes of a block of the bitmap, if each of these is full
pub bytes-used : (blocks : ℕ → List ℕ) (start first : ℕ) (bytes : List ℕ) → first % 4096 ≡ 0 → bytes ≡ blocks (start + first / 4096) → (count : ℕ) → count ≤ 512 → AreFull bytes count
    → (k : ℕ) → first ≤ k → k < first + count * 8 → is_used blocks start k ≡ true
bytes-used blocks start first bytes whole here count few full k low high =
    let at = first + (k - first) / 8 * 8 in
    let same : start + first / 4096 ≡ start + at / 4096 = omega (arith, whole, low, high, few) in
    let place : at % 4096 / 8 ≡ (k - first) / 8 = omega (arith, whole, low, high, few) in
    byte-used blocks start at bytes (omega (arith, whole)) (here ∙ ap blocks same) (ap (λ p. slice_index bytes p) place ∙ full ((k - first) / 8) (omega (arith, low, high))) k (omega (arith, low))
    (omega (arith, low))

pub taken-used : (used : ℕ → Bool) (e : Extent) (k : ℕ) → used k ≡ true → is_taken used e k ≡ true
taken-used used e k is = ap (λ t. t || is_in e k) is

-- none of the eight is the extent's
pub taken-free : (used : ℕ → Bool) (e : Extent) (first k : ℕ) → meets e first ≡ false → first ≤ k → k < first + 8 → used k ≡ false → is_taken used e k ≡ false
taken-free used e first k apart low high free =
    ap (λ t. t || is_in e k) free
    ∙ elim (cases_lt k e.first) [
      | inl before ↦ is_in-outside e k (inl before)
      | inr from ↦ elim (cases_lt k (e.first + e.count)) [
        | inl within ↦ absurd (let is : meets e first ≡ true = and_from (nat_lt e.first (first + 8)) (nat_lt first (e.first + e.count)) (lt-ltb e.first (first + 8) (omega (arith, from, high))) (lt-ltb first (e.first + e.count) (omega (arith, low, within))) in true≢false (sym is ∙ apart))
        | inr behind ↦ is_in-outside e k (inr behind)
      ]
    ]
