-- Lemmas about the definitions of specs/Puts.antt.
use Rattle.std.proofs.Common.{◌≡◌, ℕ, zero, suc, ◌+◌, ◌-◌, ◌^◌, ◌%◌, ◌<◌, ◌≤◌, ◌⊎◌, inl, inr, List, [], sym, refl, arith, length, drop, ◌∙◌, subst, append-nil}
use Rattle.std.specs.Prelude.{slice_index, slice_range}
use Rattle.std.proofs.Math.Nat.{mod-eq_of_lt}
use Rattle.std.proofs.lemmas.List.{get_or-drop, get_or-take, length-take, length-drop, ext_get_or}
use Rattle.byteorder.specs.Endian.{big_from, big_bytes}
use Rattle.byteorder.specs.Numbers.{big_from-bytes, length-bytes_high_first}
use Rattle.hfs_fields.specs.Numbers.{number_at}
use Rattle.hfs_fields.specs.Puts.{IsPut}

-- a number depends on its own bytes alone
big_from-same : (n i : ℕ) (us vs : List ℕ) → ((k : ℕ) → i ≤ k → k < i + n → slice_index us k ≡ slice_index vs k) → big_from i n us ≡ big_from i n vs
big_from-same zero i us vs h = refl
big_from-same (suc n) i us vs h =
    let here = h i (omega arith) (omega arith) in
    let rest = big_from-same n (suc i) us vs (λ k low high. h k (omega arith) (omega arith)) in
    rw (here, rest) refl

pub number_at-same : (at n : ℕ) (us vs : List ℕ) → ((k : ℕ) → at ≤ k → k < at + n → slice_index us k ≡ slice_index vs k) → number_at at n us ≡ number_at at n vs
unfolding number_at
number_at-same at n us vs h =
    big_from-same n 0 (drop at us) (drop at vs) (λ k low high. rw (get_or-drop at us k 0, get_or-drop at vs k 0) (h (at + k) (omega arith) (omega arith)))

-- a number beside the bytes that were written is as it was
pub number_at-kept : (a n at : ℕ) (xs old new : List ℕ) → IsPut at xs old new → (a + n ≤ at) ⊎ (at + length xs ≤ a) → number_at a n new ≡ number_at a n old
number_at-kept a n at xs old new put apart =
    number_at-same a n new old (λ k low high. put.rest k (elim apart [ inl h ↦ inl (omega arith) | inr h ↦ inr (omega arith) ]))

-- a number that was written is read back
pub number_at-put : (at n x : ℕ) (old new : List ℕ) → IsPut at (big_bytes n x) old new → x < 256 ^ n → number_at at n new ≡ x
unfolding number_at
number_at-put at n x old new put small =
    let len = length-bytes_high_first n x in
    let same = big_from-same n 0 (drop at new) (big_bytes n x) (λ k low high. rw (get_or-drop at new k 0) (put.here k (omega (arith, len)))) in
    let back = big_from-bytes n x [] in
    same ∙ subst (λ (bs : List ℕ). big_from 0 n bs ≡ x % 256 ^ n) (append-nil (big_bytes n x)) back ∙ mod-eq_of_lt small

range-length : (xs : List ℕ) (a b : ℕ) → b ≤ length xs → length (slice_range xs a b) ≡ b - a
range-length xs a b h = simp (length-take, length-drop) (omega arith)

range-at : (xs : List ℕ) (a b k : ℕ) → k < b - a → slice_index (slice_range xs a b) k ≡ slice_index xs (a + k)
range-at xs a b k h = get_or-take (b - a) (drop a xs) k 0 h ∙ get_or-drop a xs k 0

-- bytes beside those that were written are as they were
pub slice_range-kept : (a b at : ℕ) (xs old new : List ℕ) → IsPut at xs old new → b ≤ length old → (b ≤ at) ⊎ (at + length xs ≤ a) → slice_range new a b ≡ slice_range old a b
slice_range-kept a b at xs old new put fits apart =
    let lens = put.len in
    let new_len = range-length new a b (omega arith) in
    let old_len = range-length old a b fits in
    ext_get_or 0 _ _ (new_len ∙ sym old_len) (λ k lt.
    let in' : k < b - a = omega (arith, new_len, lt) in
    range-at new a b k in' ∙ put.rest (a + k) (elim apart [ inl h ↦ inl (omega arith) | inr h ↦ inr (omega arith) ]) ∙ sym (range-at old a b k in'))

-- the bytes that were written are read back
pub slice_range-put : (at b : ℕ) (xs old new : List ℕ) → IsPut at xs old new → b ≡ at + length xs → b ≤ length old → slice_range new at b ≡ xs
slice_range-put at b xs old new put e fits =
    let lens = put.len in
    let new_len = range-length new at b (omega arith) in
    ext_get_or 0 _ _ (omega arith) (λ k lt.
    let in' : k < b - at = omega (arith, new_len, lt) in
    range-at new at b k in' ∙ put.here k (omega arith))
