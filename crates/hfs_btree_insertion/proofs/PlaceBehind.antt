-- The place of a new record in a node, and where a node is cut for it.
use Rattle.std.proofs.Common.{◌≡◌, ◌≢◌, ℕ, zero, suc, ◌+◌, ◌-◌, ◌<◌, ◌≤◌, Bool, true, false, List, [], ◌∷◌, length, map, get_or, take, drop, refl, sym, ap, ◌∙◌, subst, arith, inl, inr}
use Rattle.std.specs.Prelude.{not, All, Ok, Result}
use Rattle.std.specs.Ordering.{is_gt}
use Rattle.std.specs.Cmp.{IsTotalOrder}
use Rattle.std.specs.List.{prefix_len}
use Rattle.std.proofs.lemmas.Bool.{cases_Bool, cases_lt, cond-true, cond-false}
use Rattle.std.proofs.lemmas.List.{length-drop}
use Rattle.std.proofs.lemmas.List.Elements.{All-get_or}
use Rattle.std.proofs.lemmas.List.Sums.{prefix_len-le-length}
use Rattle.hfs_btree.specs.declared.node.Node.{Node}
use Rattle.hfs_btree.specs.declared.fault.NodeFault.{NodeFault}
use Rattle.hfs_btree.specs.Node.{node_of, size_of}
use Rattle.hfs_btree.proofs.SizeLemmas.{size_of-take_more, size_of-take-drop, size_of-take_all}
use Rattle.hfs_btree.specs.declared.key.Key.{Ghosts}
use Rattle.hfs_btree.specs.Pairs.{Pairs, IsAbove, pairs_from}
use Rattle.hfs_fields.specs.Each.{Each}
use Rattle.hfs_fields.proofs.ElementLemmas.{each-mono}
use Rattle.hfs_btree.specs.Tree.{Store, records_in, records_of, pair_of, pairs_of, reads_at}
use Rattle.hfs_btree.specs.Header.{header_in, depth_of}
use Rattle.hfs_btree.specs.Search.{is_not_above, leaf_under, leaf_for}
use Rattle.hfs_btree_edits.specs.Edits.{node_for}
use Rattle.hfs_btree_insertion.specs.Begun.{IsBehindLeaf}
use Rattle.hfs_btree.proofs.LookupLemmas.{above-below}
use Rattle.hfs_btree.proofs.DecodedLemmas.{records-read}
use Rattle.hfs_btree_edits.specs.LevelParts.{entry_key}
use Rattle.hfs_btree_insertion.specs.Cut.{LeaveRoom, IsRoomyCut}
use Rattle.hfs_btree_insertion.specs.Halves.{IsPlaceBehind}
use Rattle.hfs_btree_insertion.proofs.Cutting.{reads-leaf, reads-index}
use Rattle.hfs_btree_insertion.proofs.Prefixes.{one-more, none-more}

-- the last record is short
pub last-small : (xs : List (List ℕ)) (c : ℕ) → c + 1 ≡ length xs → All (λ r. length r ≤ 140) xs → size_of (drop c xs) ≤ 142
last-small xs c last short =
    let lt : c < length xs = omega (arith, last) in
    let both = size_of-take-drop xs c in
    let more = size_of-take_more xs c lt in
    let all = size_of-take_all xs (c + 1) (omega (arith, last)) in
    let small = All-get_or (λ (r : List ℕ). length r ≤ 140) xs c [] lt short in
    omega (arith, both, more, all, small)

-- the records of a prefix fit
fits-before : (p : List ℕ → Bool) (xs : List (List ℕ)) (j : ℕ) → j < prefix_len p xs → p (get_or xs j []) ≡ true
fits-before p [] j lt = absurd (omega (arith, lt))
fits-before p (x ∷ xs) zero lt =
    elim (cases_Bool (p x)) [ inl good ↦ good | inr bad ↦ absurd (let none = none-more p x xs bad in omega (arith, none, lt)) ]
fits-before p (x ∷ xs) (suc j) lt =
    elim (cases_Bool (p x)) [
      | inl good ↦ (let one = one-more p x xs good in fits-before p xs j (omega (arith, one, lt)))
      | inr bad ↦ absurd (let none = none-more p x xs bad in omega (arith, none, lt))
    ]

unless : (b : Bool) → not b ≡ true → b ≡ false
unless true e = cc
unless false e = refl

module _ {K : Type 0} (g : Ghosts K) (key : K) where
  -- ---- a leaf

  module _ (total : IsTotalOrder g.compare) where
    too-short : (x : List ℕ) (xs : List (List ℕ)) (i : ℕ) → drop i (map (pair_of g) xs) ≡ pairs_from g.compare key (pair_of g x ∷ map (pair_of g) xs) → is_gt (g.compare key (g.leaf_key x)) ≡ false → ⊥
    too-short x xs i e not_gt =
        let rest = map (pair_of g) xs in
        let same = ap (λ (qs : Pairs K). length qs) (e ∙ cond-false (is_gt (g.compare key (g.leaf_key x))) (pairs_from g.compare key (map (pair_of g) xs)) (pair_of g x ∷ map (pair_of g) xs) not_gt) in
        let len = length-drop i (map (pair_of g) xs) in
        omega (arith, same, len)

    leaf-before : (xs : List (List ℕ)) (place j : ℕ) → drop place (map (pair_of g) xs) ≡ pairs_from g.compare key (map (pair_of g) xs) → j < place → place ≤ length xs
        → is_gt (g.compare (g.leaf_key (get_or xs j [])) key) ≡ false
    leaf-before [] place j e lt le = absurd (omega (arith, lt, le))
    leaf-before (x ∷ xs) zero j e lt le = absurd (omega (arith, lt))
    leaf-before (x ∷ xs) (suc i) zero e lt le =
        elim (cases_Bool (is_gt (g.compare key (g.leaf_key x)))) [
          | inl gt ↦ ap is_gt (above-below g.compare total key (g.leaf_key x) gt)
          | inr not_gt ↦ absurd (too-short x xs i e not_gt)
        ]
    leaf-before (x ∷ xs) (suc i) (suc j) e lt le =
        elim (cases_Bool (is_gt (g.compare key (g.leaf_key x)))) [
          | inl gt ↦ leaf-before xs i j (e ∙ cond-true (is_gt (g.compare key (g.leaf_key x))) (pairs_from g.compare key (map (pair_of g) xs)) (pair_of g x ∷ map (pair_of g) xs) gt) (omega (arith, lt)) (omega (arith, le))
          | inr not_gt ↦ absurd (too-short x xs i e not_gt)
        ]

    -- behind the last
    pub all-below : (ps : Pairs K) (place : ℕ) → length ps ≤ place → drop place ps ≡ pairs_from g.compare key ps → IsAbove g.compare key ps
    all-below [] place le e = tt
    all-below (p ∷ ps) zero le e = absurd (omega (arith, le))
    all-below (p ∷ ps) (suc i) le e =
        elim (cases_Bool (is_gt (g.compare key p.0))) [
          | inl gt ↦ (above-below g.compare total key p.0 gt, all-below ps i (omega (arith, le)) (e ∙ cond-true (is_gt (g.compare key p.0)) (pairs_from g.compare key ps) (p ∷ ps) gt))
          | inr not_gt ↦ absurd (
              let same = ap (λ (qs : Pairs K). length qs) (e ∙ cond-false (is_gt (g.compare key p.0)) (pairs_from g.compare key ps) (p ∷ ps) not_gt) in
              let len = length-drop i ps in
              omega (arith, same, len)
              )
        ]

    pub place-leaf : (k : ℕ) (xs : List (List ℕ)) (place : ℕ) → k ≡ 0 → place ≤ length xs → drop place (map (pair_of g) xs) ≡ pairs_from g.compare key (map (pair_of g) xs) → IsPlaceBehind g key k xs place
    place-leaf zero xs place bottom le e = record { within = le; low = λ j lt. leaf-before xs place j e lt le }
    place-leaf (suc k) xs place bottom le e = absurd (omega (arith, bottom))

  -- ---- an index node

  pub place-index : (k : ℕ) (xs : List (List ℕ)) (place : ℕ) → k ≢ 0 → place ≡ prefix_len (is_not_above g key) xs → IsPlaceBehind g key k xs place
  place-index zero xs place some is = absurd (some refl)
  place-index (suc k) xs place some is =
      let most = prefix_len-le-length (is_not_above g key) xs in
      record {
        within = omega (arith, is, most);
        low = λ j lt. unless (is_gt (g.compare (g.index_key (get_or xs j [])) key)) (fits-before (is_not_above g key) xs j (omega (arith, is, lt)));
      }

  -- no record stands before the first
  pub place-none : (k : ℕ) (xs : List (List ℕ)) → IsPlaceBehind g key k xs 0
  place-none k xs = record { within = omega arith; low = λ j lt. absurd (omega (arith, lt)) }

  -- ---- what was read

  module _ (k : ℕ) (bytes : List ℕ) (reads : Each (λ e. reads_at g k e ≡ true) (records_of (node_of bytes))) where
    pub leaf-read : k ≡ 0 → Each (λ e. g.is_leaf e ≡ true) (records_of (node_of bytes))
    leaf-read bottom = each-mono (λ e. reads_at g k e ≡ true) (λ e. g.is_leaf e ≡ true) (records_of (node_of bytes)) (λ e h. reads-leaf g k e bottom h) reads

    module _ (v : Node) (is : Ok v ≡ node_of bytes) where
      pub index-read : k ≢ 0 → Each (λ e. g.is_index e ≡ true) v.records
      index-read some =
          let P : Result Node NodeFault → Type 0 = λ r. Each (λ e. g.is_index e ≡ true) (records_of r) in
          subst P (sym is) (each-mono (λ e. reads_at g k e ≡ true) (λ e. g.is_index e ≡ true) (records_of (node_of bytes)) (λ e h. reads-index g k e some h) reads)

      pub place-read : (place : ℕ) → k ≢ 0 → place ≡ prefix_len (is_not_above g key) v.records → IsPlaceBehind g key k (records_of (node_of bytes)) place
      place-read place some at =
          let P : Result Node NodeFault → Type 0 = λ r. IsPlaceBehind g key k (records_of r) place in
          subst P is (place-index k v.records place some at)

  -- ---- the cut

  module _ (nodes : Store) (n : ℕ) (bytes : List ℕ) (read : bytes ≡ get_or nodes n []) where
    pub reads-read : (k : ℕ) → Each (λ e. reads_at g k e ≡ true) (records_in nodes n) → Each (λ e. reads_at g k e ≡ true) (records_of (node_of bytes))
    reads-read k h = let P : List (List ℕ) → Type 0 = λ xs. Each (λ e. reads_at g k e ≡ true) xs in subst P (sym (records-read nodes n bytes read)) h

    pub roomy-cut : (v : Node) (k at c len : ℕ) → Ok v ≡ node_of bytes → IsPlaceBehind g key k (records_of (node_of bytes)) at → (at ≤ c → LeaveRoom (take c v.records) len) → LeaveRoom (drop c v.records) len
        → IsRoomyCut g nodes key k n c len
    roomy-cut v k at c len is behind first second =
        let same : v.records ≡ records_in nodes n = ap records_of is ∙ records-read nodes n bytes read in
        let P : List (List ℕ) → Type 0 = λ xs. LeaveRoom (take c xs) len in
        let Q : List (List ℕ) → Type 0 = λ xs. LeaveRoom (drop c xs) len in
        let R : List (List ℕ) → Type 0 = λ xs. is_gt (g.compare (entry_key g k (get_or xs c [])) key) ≡ false in
        record {
          first = λ gt. subst P same
              (elim (cases_lt c at) [
                | inl lt ↦ absurd (let low : is_gt (g.compare (entry_key g k (get_or (records_in nodes n) c [])) key) ≡ false = subst R (records-read nodes n bytes read) (behind.low c lt) in let both : true ≡ false = sym gt ∙ low in cc)
                | inr ge ↦ first (omega (arith, ge))
              ]);
          second = subst Q same second;
        }

    -- the leaf where the search for the key ends
    pub behind-leaf : (len : ℕ) → n ≡ leaf_for g nodes key → IsAbove g.compare key (pairs_of g bytes) → 496 < size_of (records_of (node_of bytes)) + (len + 2) → IsBehindLeaf g nodes key len
    behind-leaf len found above full =
        let none : depth_of nodes - 1 ≡ depth_of nodes - 1 - 0 = omega arith in
        let at : n ≡ node_for g nodes key 0 = found ∙ ap (λ (j : ℕ). leaf_under g nodes key j (header_in nodes).root) none in
        let same = records-read nodes n bytes read ∙ ap (records_in nodes) at in
        let P : List (List ℕ) → Type 0 = λ xs. IsAbove g.compare key (map (pair_of g) xs) in
        let size = ap size_of same in
        record { above = subst P same above; full = omega (arith, full, size) }
