-- What is read from bytes in which a node was laid.
use Rattle.std.proofs.Common.{◌≡◌, ℕ, suc, ◌+◌, ◌-◌, ◌*◌, ◌<◌, ◌≤◌, inl, inr, true, List, [], ◌∷◌, Ok, sym, ap, refl, arith, length, take, get_or, ◌∙◌, subst}
use Rattle.std.specs.Prelude.{nat_le}
use Rattle.std.specs.List.{sum_by}
use Rattle.std.proofs.lemmas.List.{take-take}
use Rattle.std.proofs.lemmas.List.Sums.{sum_by_more, sum_by-take-le, sum_by-cons}
use Rattle.std.proofs.lemmas.List.FromFn.{fill_by_all}
use Rattle.std.proofs.lemmas.Bool.{and_from, le-leb, cases_eq}
use Rattle.hfs_btree.specs.declared.node.Node.{Node}
use Rattle.hfs_btree.specs.Node.{count_of, offset_of, are_inside, are_rising, node_of, node_with, record_of, start_of, size_of, Fits}
use Rattle.hfs_btree.specs.Laid.{AreLaid, HasHead}
use Rattle.hfs_btree.proofs.BelowLemmas.{each_below-from}
use Rattle.hfs_btree.proofs.DecodingLemmas.{lies_inside, rises_at, node_of-ok}

-- ---- where records begin

pub start-zero : (records : List (List ℕ)) → start_of records 0 ≡ 14
unfolding start_of
start-zero records = refl

pub start-more : (records : List (List ℕ)) (i : ℕ) → i < length records → start_of records (i + 1) ≡ start_of records i + length (get_or records i [])
unfolding start_of
start-more records i h = let e = sum_by_more (λ (r : List ℕ). length r) records i [] h in omega (arith, e)

pub start-least : (records : List (List ℕ)) (i : ℕ) → 14 ≤ start_of records i
unfolding start_of
start-least records i = omega arith

pub start-rises : (records : List (List ℕ)) (k i : ℕ) → k ≤ i → start_of records k ≤ start_of records i
unfolding start_of
start-rises records k i h =
    let same = take-take k i records h in
    let le = sum_by-take-le (λ (r : List ℕ). length r) (take i records) k in
    let P : List (List ℕ) → Type 0 = λ xs. 14 + sum_by (λ r. length r) xs ≤ 14 + sum_by (λ r. length r) (take i records) in
    subst P same (omega (arith, le))

sums : (records : List (List ℕ)) → sum_by (λ (r : List ℕ). length r + 2) records ≡ sum_by (λ (r : List ℕ). length r) records + 2 * length records
sums [] = refl
sums (r ∷ records) = let ih = sums records in rw (sum_by-cons (λ (r : List ℕ). length r + 2) r records, sum_by-cons (λ (r : List ℕ). length r) r records) (omega (arith, ih))

-- the lengths of the records, and two bytes for each
pub size_of-lengths : (records : List (List ℕ)) → size_of records ≡ sum_by (λ (r : List ℕ). length r) records + 2 * length records
unfolding size_of
size_of-lengths records = sums records

pub start-room : (records : List (List ℕ)) (i : ℕ) → size_of records ≤ 496 → start_of records i + 2 * length records ≤ 510
unfolding start_of
start-room records i h = omega (arith, size_of-lengths records, sum_by-take-le (λ (r : List ℕ). length r) records i)

pub few-records : (records : List (List ℕ)) → size_of records ≤ 496 → length records ≤ 248
few-records records h = omega (arith, size_of-lengths records)

-- ---- the whole node

fields : (bytes : List ℕ) (v : Node) → HasHead v bytes → v.records ≡ (node_with v.kind bytes).records → node_with v.kind bytes ≡ v
unfolding node_with
fields bytes v head records = λ i. record { forward = head.forward i; backward = head.backward i; kind = v.kind; height = head.height i; records = sym records i }

module _ (v : Node) (bytes : List ℕ) (room : Fits v) (head : HasHead v bytes) (laid : AreLaid v.records (length v.records) bytes)
    (free : offset_of bytes (length v.records) ≡ start_of v.records (length v.records)) where
  pub offset_of-encoded : (k : ℕ) → k ≤ length v.records → offset_of bytes k ≡ start_of v.records k
  offset_of-encoded k le = elim (cases_eq k (length v.records)) [ inl e ↦ rw e free | inr d ↦ laid.offsets k (omega arith) ]

  inside : are_inside bytes ≡ true
  unfolding are_inside
  inside =
      let count = head.count in
      let few = few-records v.records room in
      and_from (nat_le (count_of bytes) 248) _ (le-leb _ _ (omega (arith, count, few))) (each_below-from (lies_inside bytes) (suc (count_of bytes)) (λ k lt.
      let is = offset_of-encoded k (omega (arith, count)) in
      let bound = start-room v.records k room in
      let least = start-least v.records k in
      and_from (nat_le 14 (offset_of bytes k)) (nat_le (offset_of bytes k) (510 - 2 * count_of bytes)) (le-leb _ _ (omega (arith, is, least))) (le-leb _ _ (omega (arith, is, bound, count)))))

  rising : are_rising bytes ≡ true
  unfolding are_rising
  rising =
      let count = head.count in
      each_below-from (rises_at bytes) (count_of bytes) (λ k lt.
      let is = offset_of-encoded k (omega (arith, count)) in
      let next = offset_of-encoded (k + 1) (omega (arith, count)) in
      let rise = start-rises v.records k (k + 1) (omega arith) in
      le-leb _ _ (omega (arith, is, next, rise)))

  record-is : (k : ℕ) → k < length v.records → get_or v.records k [] ≡ record_of bytes k
  unfolding record_of
  record-is k lt = rw (offset_of-encoded k (omega arith), offset_of-encoded (k + 1) (omega arith)) (sym (laid.bodies k lt))

  records-are : v.records ≡ (node_with v.kind bytes).records
  unfolding node_with
  records-are = fill_by_all (record_of bytes) v.records (count_of bytes) [] (sym head.count) (λ k lt. record-is k (omega (arith, head.count)))

  pub node_of-encoded : node_of bytes ≡ Ok v
  node_of-encoded = node_of-ok v.kind bytes (record { kind_is = head.kind; inside = inside; rising = rising }) ∙ ap Ok (fields bytes v head records-are)
