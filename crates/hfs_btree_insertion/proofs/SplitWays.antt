-- The way to a key, where a node on it was cut in two.
use Rattle.hfs_btree_insertion.specs.Cut.{IsSplit, IsRoomyCut}
use Rattle.hfs_btree_insertion.specs.Growth.{HasRoom}
use Rattle.hfs_btree_edits.specs.LevelParts.{lift, entry_key}
use Rattle.std.proofs.Common.{◌≡◌, ℕ, zero, suc, ◌+◌, ◌-◌, ◌<◌, ◌≤◌, Bool, true, false, List, [], ◌∷◌, ◌++◌, length, get_or, take, drop, refl, sym, ap, ◌∙◌, subst, arith, inl, inr}
use Rattle.std.specs.Prelude.{insert, not}
use Rattle.std.specs.Ordering.{is_gt}
use Rattle.std.specs.Cmp.{IsTotalOrder}
use Rattle.std.specs.List.{flat_map, prefix_len}
use Rattle.std.proofs.lemmas.Bool.{cases_Bool}
use Rattle.std.proofs.lemmas.List.{get_or-take, get_or-drop, length-take}
use Rattle.std.proofs.lemmas.List.Sums.{prefix_len-le-length}
use Rattle.hfs_btree.specs.declared.key.Key.{Ghosts}
use Rattle.hfs_btree.specs.Pairs.{Pairs}
use Rattle.hfs_fields.specs.Each.{Each}
use Rattle.hfs_fields.proofs.ElementLemmas.{each-left, each-right, each-mono}
use Rattle.hfs_btree.specs.Tree.{Store, Spot, records_in, children, spots, turn, under}
use Rattle.hfs_btree.specs.Header.{header_in, root_level}
use Rattle.hfs_btree.specs.Sound.{HasStructure, IsOrdered, IsRight}
use Rattle.hfs_btree.specs.Search.{is_not_above, child_for, leaf_under}
use Rattle.hfs_btree_insertion.proofs.Contents.{AreRecordsInOrder, HavePairs}
use Rattle.hfs_btree.proofs.DescentLemmas.{next-split, place-within}
use Rattle.hfs_btree_edits.proofs.LevelPartLemmas.{upper, of-spots, KeepsRecords, KeepsAt}
use Rattle.hfs_btree.proofs.LevelLemmas.{records-some}
use Rattle.hfs_btree.proofs.PartLemmas.{earlier-fit}
use Rattle.hfs_btree.specs.Node.{size_of}
use Rattle.hfs_btree_insertion.proofs.LevelWays.{at-way, at-upper}
use Rattle.hfs_btree_insertion.proofs.Prefixes.{insert-other, insert-one, insert-before, insert-here, take-prefix, drop-prefix, drop-some}
use Rattle.hfs_btree_insertion.proofs.Splits.{es, rs, old-level, uppers, lowers, uppers-keep, lowers-keep, records-above, records-first, records-second, right-uppers, right-lowers, node-keys, node-some}

-- ---- any way

-- a way goes on where its first part ends
pub leaf-lift : {K : Type 0} (g : Ghosts K) (nodes : Store) (key : K) (i j n : ℕ) → leaf_under g nodes key (lift i j) n ≡ leaf_under g nodes key j (leaf_under g nodes key i n)
leaf-lift g nodes key zero j n = refl
leaf-lift g nodes key (suc i) j n = leaf-lift g nodes key i j (child_for g key (records_in nodes n))

module _ {K : Type 0} (g : Ghosts K) (old new : Store) (key : K) where
  abbrev pub HasRecords : Spot → Type 0
  HasRecords x = 0 < length (records_in old x.n)

  middle-of : (P : ℕ → Type 0) (bf : List ℕ) (x : ℕ) (bh : List ℕ) → Each P (bf ++ x ∷ bh) → P x
  middle-of P bf x bh h = (each-right P bf (x ∷ bh) h).0

  -- through levels whose nodes have kept their records it leads the same way
  pub upper-way : (i k j : ℕ) (ns bf : List ℕ) (x : ℕ) (bh : List ℕ) → ns ≡ bf ++ x ∷ bh → j ≤ i → Each (KeepsAt g old new) (upper g old i k ns) → Each HasRecords (upper g old i k ns)
      → leaf_under g new key j x ≡ leaf_under g old key j x
  upper-way i k zero ns bf x bh split le keep some = refl
  upper-way zero k (suc j) ns bf x bh split le keep some = absurd (omega arith)
  upper-way (suc i) k (suc j) ns bf x bh split le keep some =
      let here = spots (suc (lift i k)) 0 ns in
      let rest = upper g old i k (flat_map (children g old) ns) in
      let K' : List ℕ → Type 0 = λ xs. Each (KeepsRecords g old new) xs in
      let S : List ℕ → Type 0 = λ xs. Each (λ y. 0 < length (records_in old y)) xs in
      let same = middle-of (KeepsRecords g old new) bf x bh (subst K' split (of-spots (KeepsRecords g old new) (suc (lift i k)) 0 ns (each-left (KeepsAt g old new) here rest keep))) in
      let entries = middle-of (λ y. 0 < length (records_in old y)) bf x bh (subst S split (of-spots (λ y. 0 < length (records_in old y)) (suc (lift i k)) 0 ns (each-left HasRecords here rest some))) in
      let cut = ap (flat_map (children g old)) split ∙ next-split g old bf x bh (prefix_len (is_not_above g key) (records_in old x) - 1) (place-within g key (records_in old x) entries) in
      ap (λ (xs : List (List ℕ)). leaf_under g new key j (child_for g key xs)) same
      ∙ upper-way i k j (flat_map (children g old) ns) _ (child_for g key (records_in old x)) _ cut (omega arith) (each-right (KeepsAt g old new) here rest keep) (each-right HasRecords here rest some)

  pub turn-way : (d j : ℕ) (ns bf : List ℕ) (x : ℕ) (bh : List ℕ) → ns ≡ bf ++ x ∷ bh → j ≤ d → Each (KeepsAt g old new) (turn g old d ns) → Each HasRecords (turn g old d ns)
      → leaf_under g new key j x ≡ leaf_under g old key j x
  turn-way d zero ns bf x bh split le keep some = refl
  turn-way zero (suc j) ns bf x bh split le keep some = absurd (omega arith)
  turn-way (suc d) (suc j) ns bf x bh split le keep some =
      let here = spots d 0 ns in
      let rest = turn g old d (flat_map (children g old) ns) in
      let K' : List ℕ → Type 0 = λ xs. Each (KeepsRecords g old new) xs in
      let S : List ℕ → Type 0 = λ xs. Each (λ y. 0 < length (records_in old y)) xs in
      let same = middle-of (KeepsRecords g old new) bf x bh (subst K' split (of-spots (KeepsRecords g old new) d 0 ns (each-left (KeepsAt g old new) here rest keep))) in
      let entries = middle-of (λ y. 0 < length (records_in old y)) bf x bh (subst S split (of-spots (λ y. 0 < length (records_in old y)) d 0 ns (each-left HasRecords here rest some))) in
      let cut = ap (flat_map (children g old)) split ∙ next-split g old bf x bh (prefix_len (is_not_above g key) (records_in old x) - 1) (place-within g key (records_in old x) entries) in
      ap (λ (xs : List (List ℕ)). leaf_under g new key j (child_for g key xs)) same
      ∙ turn-way d j (flat_map (children g old) ns) _ (child_for g key (records_in old x)) _ cut (omega arith) (each-right (KeepsAt g old new) here rest keep) (each-right HasRecords here rest some)

-- ---- the way through the node that was cut

module _ {K : Type 0} (g : Ghosts K) (total : IsTotalOrder g.compare) (old new : Store) (i k p n m q c : ℕ) (s : IsSplit g old new i k p n m q c) (structure : HasStructure g old) (ordered : IsOrdered g old)
    (key : K) (way : leaf_under g old key i (header_in old).root ≡ p) (low : prefix_len (is_not_above g key) (records_in old p) ≡ suc q) where
  abbrev fits : List ℕ → Bool
  fits e = is_not_above g key e

  abbrev root : ℕ
  root = (header_in old).root

  some-of : (ss : List Spot) → Each (IsRight g old) ss → Each (HasRecords g old new key) ss
  some-of ss h = each-mono (IsRight g old) (HasRecords g old new key) ss (λ x r. records-some g old (IsRight g old) (λ spot y. y) x r) h

  -- down to the node above it
  pub way-above : (j : ℕ) → j ≤ i → leaf_under g new key j (header_in new).root ≡ leaf_under g old key j root
  way-above j le =
      ap (leaf_under g new key j) s.parts.root
      ∙ upper-way g old new key i (suc k) j (root_level old) [] root [] refl le (uppers-keep g old new i k p n m q c s structure) (some-of _ (right-uppers g old new i k p n m q c s structure))

  place : prefix_len (is_not_above g key) (records_in old p) - 1 ≡ q
  place = omega arith

  pub old-child : child_for g key (records_in old p) ≡ n
  old-child = ap (λ (j : ℕ). g.child (get_or (records_in old p) j [])) place ∙ sym s.parts.cut.child

  new-records : records_in new p ≡ insert (records_in old p) (suc q) s.parts.entry
  new-records = records-above g old new i k p n m q c s structure

  -- where the new record's key is above the key it goes on to the first half, else to the second
  child-first : fits s.parts.entry ≡ false → child_for g key (records_in new p) ≡ n
  child-first other =
      let at : prefix_len (is_not_above g key) (insert (records_in old p) (suc q) s.parts.entry) - 1 ≡ q = omega (arith, insert-other (is_not_above g key) q (records_in old p) s.parts.entry low other) in
      ap (child_for g key) new-records
      ∙ ap (λ (j : ℕ). g.child (get_or (insert (records_in old p) (suc q) s.parts.entry) j [])) at
      ∙ ap g.child (insert-before q (records_in old p) s.parts.entry s.parts.cut.within)
      ∙ sym s.parts.cut.child

  child-second : fits s.parts.entry ≡ true → child_for g key (records_in new p) ≡ m
  child-second good =
      let at : prefix_len (is_not_above g key) (insert (records_in old p) (suc q) s.parts.entry) - 1 ≡ suc q = omega (arith, insert-one (is_not_above g key) q (records_in old p) s.parts.entry low good) in
      ap (child_for g key) new-records
      ∙ ap (λ (j : ℕ). g.child (get_or (insert (records_in old p) (suc q) s.parts.entry) j [])) at
      ∙ ap g.child (insert-here q (records_in old p) s.parts.entry s.parts.cut.within)
      ∙ s.parts.names

  pub new-at : leaf_under g new key i (header_in new).root ≡ p
  new-at = way-above i (omega arith) ∙ way

  pub one-down : (nodes : Store) (r : ℕ) → leaf_under g nodes key (lift i 1) r ≡ child_for g key (records_in nodes (leaf_under g nodes key i r))
  one-down nodes r = leaf-lift g nodes key i 1 r

  pub way-node : leaf_under g old key (lift i 1) root ≡ n
  way-node = one-down old root ∙ ap (λ (x : ℕ). child_for g key (records_in old x)) way ∙ old-child

  -- the node above has one more record, and still a key that isn't above the key
  pub low-above : 0 < prefix_len (is_not_above g key) (records_in new p)
  low-above =
      let Q : List (List ℕ) → Type 0 = λ xs. 0 < prefix_len (is_not_above g key) xs in
      subst Q (sym new-records)
      (elim (cases_Bool (is_not_above g key s.parts.entry)) [
        | inl good ↦ (let more = insert-one (is_not_above g key) q (records_in old p) s.parts.entry low good in omega (arith, more))
        | inr other ↦ (let same = insert-other (is_not_above g key) q (records_in old p) s.parts.entry low other in omega (arith, same))
      ])

  -- the nodes above it on the way have kept their records
  pub records-uppers : (j : ℕ) → j < i → records_in new (leaf_under g old key j root) ≡ records_in old (leaf_under g old key j root)
  records-uppers j lt =
      at-upper g old key (KeepsRecords g old new) i (suc k) j (root_level old) [] root [] refl lt (uppers-keep g old new i k p n m q c s structure) (some-of _ (right-uppers g old new i k p n m q c s structure))

  unfit : (b : Bool) → not b ≡ false → b ≡ true
  unfit true e = refl
  unfit false e = cc

  -- the part on the way has room
  pub half-room : (len : ℕ) → IsRoomyCut g old key k n c len → HasRoom new len (leaf_under g new key (lift i 1) (header_in new).root)
  half-room len room =
      let P : ℕ → Type 0 = λ x. HasRoom new len x in
      let Q : List (List ℕ) → Type 0 = λ xs. size_of xs + (len + 2) ≤ 496 in
      let to = one-down new (header_in new).root ∙ ap (λ (x : ℕ). child_for g key (records_in new x)) new-at in
      elim (cases_Bool (is_not_above g key s.parts.entry)) [
        | inl good ↦ subst P (sym (to ∙ child-second good)) (subst Q (sym (records-second g old new i k p n m q c s structure)) room.second)
        | inr other ↦
            (let above : is_gt (g.compare (entry_key g k (get_or (records_in old n) c [])) key) ≡ true =
            ap (λ (x : K). is_gt (g.compare x key)) (sym s.keyed) ∙ unfit (is_gt (g.compare (g.index_key s.parts.entry) key)) other in
            subst P (sym (to ∙ child-first other)) (subst Q (sym (records-first g old new i k p n m q c s structure)) (room.first above)))
      ]

  -- below the halves it is the same way
  module _ (k' : ℕ) (up : k ≡ suc k') where
    abbrev own : List ℕ → Pairs K
    own e = under g old k' (g.child e)

    abbrev old-records : List (List ℕ)
    old-records = records_in old n

    entry-fits : fits s.parts.entry ≡ fits (get_or old-records c [])
    entry-fits = ap (λ (x : K). not (is_gt (g.compare x key))) (s.keyed ∙ ap (λ (j : ℕ). entry_key g j (get_or old-records c [])) up)

    P : ℕ
    P = prefix_len (is_not_above g key) old-records

    from-first : fits s.parts.entry ≡ false → child_for g key (records_in new n) ≡ child_for g key old-records
    from-first other =
        let same = take-prefix (is_not_above g key) c old-records s.less (sym entry-fits ∙ other) in
        let few = prefix_len-le-length (is_not_above g key) (take c old-records) in
        let short = length-take c old-records in
        let some = s.some in
        let within : prefix_len (is_not_above g key) old-records - 1 < c = omega arith in
        ap (child_for g key) (records-first g old new i k p n m q c s structure)
        ∙ ap (λ (j : ℕ). g.child (get_or (take c old-records) (j - 1) [])) same
        ∙ ap g.child (get_or-take c old-records (prefix_len (is_not_above g key) old-records - 1) [] within)

    keyed : AreRecordsInOrder g old (suc k') old-records
    keyed = let Q : ℕ → Type 0 = λ j. AreRecordsInOrder g old j old-records in subst Q up (node-keys g old new i k p n m q c s structure total ordered)

    some-pairs : HavePairs g old (suc k') old-records
    some-pairs = let Q : ℕ → Type 0 = λ j. HavePairs g old j old-records in subst Q up (node-some g old new i k p n m q c s structure total ordered)

    from-second : fits s.parts.entry ≡ true → child_for g key (records_in new m) ≡ child_for g key old-records
    from-second good =
        let less = s.less in
        let here = sym entry-fits ∙ good in
        let all = earlier-fit g.compare total key g.index_key own [] c old-records s.less keyed some-pairs here in
        let count = drop-prefix (is_not_above g key) c old-records (omega arith) (λ j lt. all j (omega (arith, lt))) in
        let one = drop-some (is_not_above g key) c old-records s.less here in
        let place' : c + (prefix_len (is_not_above g key) (drop c old-records) - 1) ≡ prefix_len (is_not_above g key) old-records - 1 = omega arith in
        ap (child_for g key) (records-second g old new i k p n m q c s structure)
        ∙ ap g.child (get_or-drop c old-records (prefix_len (is_not_above g key) (drop c old-records) - 1) [])
        ∙ ap (λ (j : ℕ). g.child (get_or old-records j [])) place'

    half-child : child_for g key (records_in new (child_for g key (records_in new p))) ≡ child_for g key old-records
    half-child =
        elim (cases_Bool (is_not_above g key s.parts.entry)) [
          | inl good ↦ ap (λ (x : ℕ). child_for g key (records_in new x)) (child-second good) ∙ from-second good
          | inr other ↦ ap (λ (x : ℕ). child_for g key (records_in new x)) (child-first other) ∙ from-first other
        ]

    n-some : 0 < length old-records
    n-some = let less = s.less in omega arith

    abbrev below : List ℕ
    below = flat_map (children g old) (old-level g old new i k p n m q c s structure)

    pub way-below : (t : ℕ) → t ≤ k' → leaf_under g new key (lift i (suc (suc t))) (header_in new).root ≡ leaf_under g old key (lift i (suc (suc t))) root
    way-below t le =
        let keep : Each (KeepsAt g old new) (turn g old (suc k') below) = (let T : ℕ → Type 0 = λ d. Each (KeepsAt g old new) (turn g old d below) in subst T up (lowers-keep g old new i k p n m q c s structure)) in
        let some : Each (HasRecords g old new key) (turn g old (suc k') below) =
        (let T : ℕ → Type 0 = λ d. Each (HasRecords g old new key) (turn g old d below) in subst T up (some-of _ (right-lowers g old new i k p n m q c s structure))) in
        let cut = next-split g old (Rattle.hfs_btree_insertion.proofs.Splits.bn g old new i k p n m q c s structure) n (Rattle.hfs_btree_insertion.proofs.Splits.hn g old new i k p n m q c s structure)
        (prefix_len (is_not_above g key) old-records - 1) (place-within g key old-records n-some) in
        leaf-lift g new key i (suc (suc t)) (header_in new).root
        ∙ ap (leaf_under g new key (suc (suc t))) new-at
        ∙ ap (leaf_under g new key t) half-child
        ∙ turn-way g old new key (suc k') t below _ (child_for g key old-records) _ cut (omega arith) keep some
        ∙ sym (leaf-lift g old key i (suc (suc t)) root
        ∙ ap (leaf_under g old key (suc (suc t))) way
        ∙ ap (λ (x : ℕ). leaf_under g old key t (child_for g key (records_in old x))) old-child)

    abbrev lower-cut : ℕ → ℕ
    lower-cut t = leaf_under g old key t (child_for g key old-records)

    below-at : (t : ℕ) → leaf_under g old key (lift i (suc (suc t))) root ≡ lower-cut t
    below-at t =
        leaf-lift g old key i (suc (suc t)) root
        ∙ ap (leaf_under g old key (suc (suc t))) way
        ∙ ap (λ (x : ℕ). leaf_under g old key t (child_for g key (records_in old x))) old-child

    -- the nodes below on the way have kept their records
    pub records-below : (t : ℕ) → t ≤ k' → records_in new (leaf_under g old key (lift i (suc (suc t))) root) ≡ records_in old (leaf_under g old key (lift i (suc (suc t))) root)
    records-below t le =
        let keep : Each (KeepsAt g old new) (turn g old (suc k') below) = (let T : ℕ → Type 0 = λ d. Each (KeepsAt g old new) (turn g old d below) in subst T up (lowers-keep g old new i k p n m q c s structure)) in
        let some : Each (HasRecords g old new key) (turn g old (suc k') below) =
        (let T : ℕ → Type 0 = λ d. Each (HasRecords g old new key) (turn g old d below) in subst T up (some-of _ (right-lowers g old new i k p n m q c s structure))) in
        let cut = next-split g old (Rattle.hfs_btree_insertion.proofs.Splits.bn g old new i k p n m q c s structure) n (Rattle.hfs_btree_insertion.proofs.Splits.hn g old new i k p n m q c s structure)
        (prefix_len (is_not_above g key) old-records - 1) (place-within g key old-records n-some) in
        let R : ℕ → Type 0 = λ x. records_in new x ≡ records_in old x in
        subst R (sym (below-at t)) (at-way g old key (KeepsRecords g old new) (suc k') t below _ (child_for g key old-records) _ cut (omega (arith, le)) keep some)

    -- the half on the way has a key that isn't above the key, where the node had one
    pub low-half : 0 < prefix_len (is_not_above g key) old-records → 0 < prefix_len (is_not_above g key) (records_in new (child_for g key (records_in new p)))
    low-half few =
        let P : ℕ → Type 0 = λ x. 0 < prefix_len (is_not_above g key) (records_in new x) in
        let Q : List (List ℕ) → Type 0 = λ xs. 0 < prefix_len (is_not_above g key) xs in
        elim (cases_Bool (is_not_above g key s.parts.entry)) [
          | inl good ↦
              (let one = drop-some (is_not_above g key) c old-records s.less (sym entry-fits ∙ good) in
              subst P (sym (child-second good)) (subst Q (sym (records-second g old new i k p n m q c s structure)) (omega (arith, one))))
          | inr other ↦
              (let same = take-prefix (is_not_above g key) c old-records s.less (sym entry-fits ∙ other) in
              subst P (sym (child-first other)) (subst Q (sym (records-first g old new i k p n m q c s structure)) (omega (arith, same, few))))
        ]
