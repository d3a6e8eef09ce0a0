-- What 512 bytes decode to: what the tests say of the offsets, and what the fields are.
use Rattle.std.proofs.Common.{◌≡◌, ℕ, zero, suc, ◌+◌, ◌-◌, ◌*◌, ◌<◌, ◌≤◌, inl, inr, Bool, true, false, ◌&&◌, List, [], Option, Some, None, Result, Ok, Err, get_or, length, drop, refl, sym, ap, subst, arith, map, ◌∙◌}
use Rattle.std.specs.Prelude.{nat_le, slice_index}
use Rattle.std.specs.List.{range_with_len}
use Rattle.std.proofs.lemmas.List.FromFn.{length-map-range_with_len, get_or-map-range_with_len, sum_by-map-range_with_len_more}
use Rattle.std.proofs.lemmas.List.{length-take}
use Rattle.std.proofs.lemmas.Bool.{and_parts, and_left, and_right, and_from, le-leb, leb-true, lt-leb, cases_Bool}
use Rattle.hfs_btree.specs.declared.kind.NodeKind.{NodeKind}
use Rattle.hfs_btree.specs.declared.node.Node.{Node}
use Rattle.hfs_btree.specs.declared.fault.NodeFault.{NodeFault}
use Rattle.hfs_btree.specs.declared.fault.NodeFault.TheVariants.{Kind, Outside, NotRising, Memory}
use Rattle.hfs_btree.specs.Kind.{kind_of}
use Rattle.hfs_btree.specs.Node.{each_below, count_of, offset_of, are_inside, are_rising, node_of, node_of_kind, node_with, record_of, IsNode, size_of, Fits}
use Rattle.hfs_btree.proofs.BelowLemmas.{each_below-at, each_below-fails}

abbrev pub lies_inside : List ℕ → ℕ → Bool
lies_inside bytes i = nat_le 14 (offset_of bytes i) && nat_le (offset_of bytes i) (510 - 2 * count_of bytes)

pub count-inside : (bytes : List ℕ) → are_inside bytes ≡ true → count_of bytes ≤ 248
unfolding are_inside
count-inside bytes h = leb-true _ _ (and_parts (nat_le (count_of bytes) 248) _ h).0

pub offset-inside : (bytes : List ℕ) (i : ℕ) → are_inside bytes ≡ true → i ≤ count_of bytes
    → (14 ≤ offset_of bytes i) × (offset_of bytes i ≤ 510 - 2 * count_of bytes)
unfolding are_inside
offset-inside bytes i h lt =
    let each = (and_parts (nat_le (count_of bytes) 248) (each_below (suc (count_of bytes)) (lies_inside bytes)) h).1 in
    let both = and_parts (nat_le 14 (offset_of bytes i)) _ (each_below-at (lies_inside bytes) (suc (count_of bytes)) i each (omega arith)) in
    (leb-true _ _ both.0, leb-true _ _ both.1)

pub low-outside : (bytes : List ℕ) (i : ℕ) → i ≤ count_of bytes → offset_of bytes i < 14 → are_inside bytes ≡ false
unfolding are_inside
low-outside bytes i le low =
    and_right (nat_le (count_of bytes) 248) _ (each_below-fails (lies_inside bytes) (suc (count_of bytes)) i (and_left _ _ (lt-leb _ _ low)) (omega arith))

pub high-outside : (bytes : List ℕ) (i : ℕ) → i ≤ count_of bytes → 510 - 2 * count_of bytes < offset_of bytes i → are_inside bytes ≡ false
unfolding are_inside
high-outside bytes i le high =
    and_right (nat_le (count_of bytes) 248) _ (each_below-fails (lies_inside bytes) (suc (count_of bytes)) i (and_right (nat_le 14 (offset_of bytes i)) _ (lt-leb _ _ high)) (omega arith))

pub all-inside : (bytes : List ℕ) (n : ℕ) → count_of bytes ≤ 248 → n ≡ suc (count_of bytes) → each_below n (lies_inside bytes) ≡ true → are_inside bytes ≡ true
unfolding are_inside
all-inside bytes n few e h = and_from _ _ (le-leb _ _ few) (rw e at h)

abbrev pub rises_at : List ℕ → ℕ → Bool
rises_at bytes i = nat_le (offset_of bytes i) (offset_of bytes (i + 1))

pub offset-rising : (bytes : List ℕ) (i : ℕ) → are_rising bytes ≡ true → i < count_of bytes → offset_of bytes i ≤ offset_of bytes (i + 1)
unfolding are_rising
offset-rising bytes i h lt = leb-true _ _ (each_below-at (rises_at bytes) (count_of bytes) i h lt)

pub falling : (bytes : List ℕ) (i : ℕ) → i < count_of bytes → offset_of bytes (i + 1) < offset_of bytes i → are_rising bytes ≡ false
unfolding are_rising
falling bytes i lt fall = each_below-fails (rises_at bytes) (count_of bytes) i (lt-leb _ _ fall) lt

pub node_of-unknown : (bytes : List ℕ) → kind_of (slice_index bytes 8) ≡ None → node_of bytes ≡ Err Kind
unfolding node_of node_of_kind
node_of-unknown bytes e = rw e refl

pub node_of-outside : (bytes : List ℕ) {kind : NodeKind} → kind_of (slice_index bytes 8) ≡ Some kind → are_inside bytes ≡ false → node_of bytes ≡ Err Outside
unfolding node_of node_of_kind
node_of-outside bytes e h = rw (e, h) refl

pub node_of-falling : (bytes : List ℕ) {kind : NodeKind} → kind_of (slice_index bytes 8) ≡ Some kind → are_inside bytes ≡ true → are_rising bytes ≡ false
    → node_of bytes ≡ Err NotRising
unfolding node_of node_of_kind
node_of-falling bytes e h f = rw (e, h, f) refl

pub node_of-ok : (kind : NodeKind) (bytes : List ℕ) → IsNode kind bytes → node_of bytes ≡ Ok (node_with kind bytes)
unfolding node_of node_of_kind
node_of-ok kind bytes is = rw (is.kind_is, is.inside, is.rising) refl

-- ---- the fields of a node

pub length-records : (kind : NodeKind) (bytes : List ℕ) → length (node_with kind bytes).records ≡ count_of bytes
unfolding node_with
length-records kind bytes = length-map-range_with_len (record_of bytes) 0 (count_of bytes)

pub get_or-records : (kind : NodeKind) (bytes : List ℕ) (i : ℕ) → i < count_of bytes → get_or (node_with kind bytes).records i [] ≡ record_of bytes i
unfolding node_with
get_or-records kind bytes i lt = get_or-map-range_with_len (record_of bytes) 0 (count_of bytes) i i [] lt (omega arith)

pub length-record : (bytes : List ℕ) (i : ℕ) → offset_of bytes (i + 1) - offset_of bytes i ≤ 494 → length (record_of bytes i) ≤ 494
unfolding record_of
length-record bytes i h = let own = length-take (offset_of bytes (i + 1) - offset_of bytes i) (drop (offset_of bytes i) bytes) in omega (arith, own)

-- ---- what decodes fits

size-more : (bytes : List ℕ) (n : ℕ) → size_of (map (record_of bytes) (range_with_len 0 n)) + 14 ≤ offset_of bytes n + 2 * n → offset_of bytes n ≤ offset_of bytes (n + 1)
    → size_of (map (record_of bytes) (range_with_len 0 (n + 1))) + 14 ≤ offset_of bytes (n + 1) + 2 * (n + 1)
unfolding size_of record_of
size-more bytes n before rise =
    let more = sum_by-map-range_with_len_more (λ (r : List ℕ). length r + 2) (record_of bytes) 0 n n (omega arith) in
    let own = length-take (offset_of bytes (n + 1) - offset_of bytes n) (drop (offset_of bytes n) bytes) in
    omega (arith, more, own)

size-laid : (bytes : List ℕ) (n : ℕ) → 14 ≤ offset_of bytes 0 → ((i : ℕ) → i < n → offset_of bytes i ≤ offset_of bytes (i + 1))
    → size_of (map (record_of bytes) (range_with_len 0 n)) + 14 ≤ offset_of bytes n + 2 * n
unfolding size_of
size-laid bytes zero low rising = omega arith
size-laid bytes (suc n) low rising =
    let P : ℕ → Type 0 = λ k. size_of (map (record_of bytes) (range_with_len 0 k)) + 14 ≤ offset_of bytes k + 2 * k in
    let next : n + 1 ≡ suc n = omega arith in
    subst P next (size-more bytes n (size-laid bytes n low (λ i lt. rising i (omega arith))) (rising n (omega arith)))

pub node_with-fits : (kind : NodeKind) (bytes : List ℕ) → IsNode kind bytes → Fits (node_with kind bytes)
unfolding node_with
node_with-fits kind bytes is =
    let low = offset-inside bytes 0 is.inside (omega arith) in
    let last = offset-inside bytes (count_of bytes) is.inside (omega arith) in
    let few = count-inside bytes is.inside in
    let size = size-laid bytes (count_of bytes) low.0 (λ i lt. offset-rising bytes i is.rising lt) in
    omega (arith, last.1, few, size)

abbrev result_of : Node → Result Node NodeFault
result_of n = Ok n

ok_of_kind : (kind : NodeKind) (bytes : List ℕ) (n : Node) → kind_of (slice_index bytes 8) ≡ Some kind → are_inside bytes ≡ true → are_rising bytes ≡ true
    → Ok (node_with kind bytes) ≡ result_of n → IsNode n.kind bytes × (n ≡ node_with n.kind bytes)
unfolding node_with
ok_of_kind kind bytes n k inside rises e =
    let same : n ≡ node_with kind bytes = cc in
    let kinds : n.kind ≡ kind = ap (λ (v : Node). v.kind) same in (
      record { kind_is = k ∙ ap Some (sym kinds); inside = inside; rising = rises },
      same ∙ ap (λ (x : NodeKind). node_with x bytes) (sym kinds),
    )

of_kind : (k : Option NodeKind) (bytes : List ℕ) (n : Node) → kind_of (slice_index bytes 8) ≡ k → node_of_kind k bytes ≡ Ok n → IsNode n.kind bytes × (n ≡ node_with n.kind bytes)
unfolding node_of_kind
of_kind None bytes n k e = cc
of_kind (Some kind) bytes n k e =
    elim (cases_Bool (are_inside bytes)) [
      | inr out ↦ absurd (let no = rw out at e in cc)
      | inl inside ↦
          elim (cases_Bool (are_rising bytes)) [
            | inr falls ↦ absurd (let no = rw (inside, falls) at e in cc)
            | inl rises ↦ ok_of_kind kind bytes n k inside rises (rw (inside, rises) at e)
          ]
    ]

-- the bytes that decode to a node
pub node_of-is : (bytes : List ℕ) (n : Node) → node_of bytes ≡ Ok n → IsNode n.kind bytes × (n ≡ node_with n.kind bytes)
unfolding node_of
node_of-is bytes n e = of_kind (kind_of (slice_index bytes 8)) bytes n refl e

-- what decodes fits
pub node_of-fits : (bytes : List ℕ) (n : Node) → node_of bytes ≡ Ok n → Fits n
node_of-fits bytes n e =
    let is = node_of-is bytes n e in
    let P : Node → Type 0 = λ v. Fits v in
    subst P (sym is.1) (node_with-fits n.kind bytes is.0)

not_memory : (k : Option NodeKind) (bytes : List ℕ) → node_of_kind k bytes ≡ Err Memory → ⊥
unfolding node_of_kind
not_memory None bytes e = cc
not_memory (Some kind) bytes e =
    elim (cases_Bool (are_inside bytes)) [
      | inr out ↦ (let no = rw out at e in cc)
      | inl inside ↦
          elim (cases_Bool (are_rising bytes)) [
            | inr falls ↦ (let no = rw (inside, falls) at e in cc)
            | inl rises ↦ (let no = rw (inside, rises) at e in cc)
          ]
    ]

-- want of memory is no fault of the bytes
pub node_of-not_memory : (bytes : List ℕ) → node_of bytes ≡ Err Memory → ⊥
unfolding node_of
node_of-not_memory bytes e = not_memory (kind_of (slice_index bytes 8)) bytes e
