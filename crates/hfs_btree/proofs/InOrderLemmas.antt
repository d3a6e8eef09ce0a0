-- Offsets that are gone through once, each of which is to be no less than the one before it.
use Rattle.std.proofs.Common.{◌≡◌, ℕ, zero, suc, ◌+◌, ◌-◌, ◌*◌, ◌<◌, ◌≤◌, inl, inr, true, false, ◌&&◌, List, refl, sym, ap, subst, arith, ◌∙◌}
use Rattle.std.specs.Prelude.{nat_le, slice_index, Some}
use Rattle.hfs_btree.specs.declared.kind.NodeKind.{NodeKind}
use Rattle.hfs_btree.specs.Kind.{kind_of}
use Rattle.std.proofs.lemmas.Bool.{and_parts, and_left, and_right, and_from, le-leb, lt-leb, leb-true, leb-false, cases_eq, cases_Bool}
use Rattle.hfs_btree.specs.Node.{count_of, offset_of, are_inside, are_rising, IsNode}
use Rattle.hfs_btree.proofs.BelowLemmas.{each_below-from}
use Rattle.hfs_btree.proofs.DecodingLemmas.{lies_inside, rises_at, low-outside, high-outside, all-inside, falling}

-- the offsets before place i rise from 14 on, and none of them is above this number, which is the last of them
pub record RiseTo (bytes : List ℕ) (i least : ℕ) : Type 0 where
  pub begun : i ≡ 0 → least ≡ 14
  pub last : (k : ℕ) → i ≡ suc k → least ≡ offset_of bytes k
  pub low : (k : ℕ) → k < i → 14 ≤ offset_of bytes k
  pub most : (k : ℕ) → k < i → offset_of bytes k ≤ least
  pub rises : (k : ℕ) → k + 1 < i → offset_of bytes k ≤ offset_of bytes (k + 1)
  pub least_low : 14 ≤ least

-- offsets that rise up to the end and leave room for their row
pub risen-in_order : (bytes : List ℕ) (i least : ℕ) → count_of bytes ≤ 248 → i ≡ count_of bytes + 1 → RiseTo bytes i least
    → least ≤ 510 - 2 * count_of bytes → (are_inside bytes && are_rising bytes) ≡ true
unfolding are_rising
risen-in_order bytes i least few e is room =
    let end : i ≡ suc (count_of bytes) = omega (arith, e) in
    let inside = each_below-from (lies_inside bytes) i (λ k lt.
    (let high = is.most k lt in and_from _ _ (le-leb _ _ (is.low k lt)) (le-leb _ _ (omega (arith, high, room))))) in
    let rising = each_below-from (rises_at bytes) (count_of bytes) (λ k lt. le-leb _ _ (is.rises k (omega (arith, lt, e)))) in
    and_from _ _ (all-inside bytes i few end inside) rising

-- more offsets than there is room for
pub many-in_order : (bytes : List ℕ) → 248 < count_of bytes → (are_inside bytes && are_rising bytes) ≡ false
unfolding are_inside
many-in_order bytes many = and_left _ _ (and_left _ _ (lt-leb _ _ many))

-- an offset is below the one before it, or the first below the descriptor's end
pub fallen-in_order : (bytes : List ℕ) (i least : ℕ) → i ≤ count_of bytes → RiseTo bytes i least → offset_of bytes i < least
    → (are_inside bytes && are_rising bytes) ≡ false
fallen-in_order bytes zero least le is low =
    let first = is.begun refl in and_left _ _ (low-outside bytes 0 (omega arith) (omega (arith, first, low)))
fallen-in_order bytes (suc k) least le is low =
    let before = is.last k refl in
    let next : suc k ≡ k + 1 = omega arith in
    let P : ℕ → Type 0 = λ n. offset_of bytes n < offset_of bytes k in
    and_right _ _ (falling bytes k (omega (arith, le)) (subst P next (omega (arith, before, low))))

-- the last offset leaves no room for the row
pub high-in_order : (bytes : List ℕ) (i least : ℕ) → i ≡ count_of bytes + 1 → RiseTo bytes i least → 510 - 2 * count_of bytes < least
    → (are_inside bytes && are_rising bytes) ≡ false
high-in_order bytes i least e is high =
    let last = is.last (count_of bytes) (omega (arith, e)) in and_left _ _ (high-outside bytes (count_of bytes) (omega arith) (omega (arith, last, high)))

-- offsets that rise up to the end are in order where they leave room for their row
pub end-in_order : (bytes : List ℕ) (n i least : ℕ) → n ≡ count_of bytes → n ≤ 248 → i ≡ n + 1 → RiseTo bytes i least
    → nat_le least (510 - 2 * n) ≡ (are_inside bytes && are_rising bytes)
end-in_order bytes n i least count few e is =
    let end : i ≡ count_of bytes + 1 = omega (arith, e, count) in
    elim (cases_Bool (nat_le least (510 - 2 * n))) [
      | inl t ↦ (
          let room = leb-true least (510 - 2 * n) t in
          t ∙ sym (risen-in_order bytes i least (omega (arith, few, count)) end is (omega (arith, room, count))))
      | inr f ↦ (
          let high = leb-false least (510 - 2 * n) f in
          f ∙ sym (high-in_order bytes i least end is (omega (arith, high, count))))
    ]

-- bytes of a kind whose offsets are in order are a node
pub in_order-node : (kind : NodeKind) (bytes : List ℕ) → kind_of (slice_index bytes 8) ≡ Some kind
    → (are_inside bytes && are_rising bytes) ≡ true → IsNode kind bytes
in_order-node kind bytes k h =
    let both = and_parts (are_inside bytes) (are_rising bytes) h in record { kind_is = k; inside = both.0; rising = both.1 }

-- offsets that are inside and not in order don't rise
pub in_order-falls : (bytes : List ℕ) → (are_inside bytes && are_rising bytes) ≡ false → are_inside bytes ≡ true → are_rising bytes ≡ false
in_order-falls bytes h inside = rw inside at h
