-- The pairs under records and under levels.
use Rattle.hfs_btree_edits.specs.LevelParts.{lift, entry_key}
use Rattle.std.proofs.Common.{◌≡◌, ℕ, zero, suc, ◌<◌, List, [], ◌∷◌, ◌++◌, length, map, get_or, take, drop, refl, sym, ap, ◌∙◌, subst, arith, length-append}
use Rattle.std.specs.List.{flat_map}
use Rattle.std.proofs.lemmas.List.{map-append, length-map}
use Rattle.std.proofs.lemmas.List.Concat.{flat_map-append}
use Rattle.hfs_btree.specs.declared.key.Key.{Ghosts}
use Rattle.std.specs.Cmp.{IsTotalOrder}
use Rattle.std.specs.Prelude.{⊤}
use Rattle.std.proofs.lemmas.List.Folds.{flat_map-map}
use Rattle.hfs_btree_insertion.proofs.PartLists.{parts-left, parts-right, rises-before, rises-right, rises-least, above-front, first-most}
use Rattle.hfs_btree.specs.Pairs.{Pairs, Rises, IsAbove, IsAtMost}
use Rattle.hfs_fields.specs.Each.{Each}
use Rattle.hfs_fields.proofs.ElementLemmas.{each-append, each-left, each-right, each-mono, each-unmap}
use Rattle.hfs_btree.specs.Tree.{Store, Spot, records_in, children, pair_of, pairs, spots, turn, under, level_below, last_level}
use Rattle.hfs_btree.specs.Header.{depth_of, root_level, tree_content}
use Rattle.hfs_btree.specs.Sound.{AreKeysInOrder, ArePartsInOrder, IsRight, part_of}
use Rattle.hfs_btree.proofs.LevelLemmas.{flat_map-flat_map, map-split, records-some}
use Rattle.hfs_btree_edits.proofs.LevelPartLemmas.{parts-kept, at-spots, of-spots, KeepsRecords, KeepsAt, KeepsUnder, under-kept, same-flat, keys-kept}

module _ {K : Type 0} (g : Ghosts K) (nodes : Store) where
  -- the pairs under such records of a node so many levels above the leaves
  abbrev pub content : ℕ → List (List ℕ) → Pairs K
  content zero xs = map (pair_of g) xs
  content (suc k) xs = flat_map (under g nodes k) (map g.child xs)

  pub under-content : (k n : ℕ) → under g nodes k n ≡ content k (records_in nodes n)
  under-content zero n = refl
  under-content (suc k) n = refl

  pub content-append : (k : ℕ) (xs ys : List (List ℕ)) → content k (xs ++ ys) ≡ content k xs ++ content k ys
  content-append zero xs ys = map-append (pair_of g) xs ys
  content-append (suc k) xs ys = ap (flat_map (under g nodes k)) (map-append g.child xs ys) ∙ flat_map-append (under g nodes k) (map g.child xs) (map g.child ys)

  -- the pairs of the last level are those under the first
  pub under-level : (k : ℕ) (ns : List ℕ) → flat_map (under g nodes k) ns ≡ flat_map (pairs g nodes) (level_below g nodes k ns)
  under-level zero ns = refl
  under-level (suc k) ns = sym (flat_map-flat_map (under g nodes k) (children g nodes) ns) ∙ under-level k (flat_map (children g nodes) ns)

  pub content-under : (k : ℕ) → depth_of nodes ≡ suc k → tree_content g nodes ≡ flat_map (under g nodes k) (root_level nodes)
  content-under k deep = ap (λ (d : ℕ). flat_map (pairs g nodes) (last_level g nodes d (root_level nodes))) deep ∙ sym (under-level k (root_level nodes))

  -- what holds of the nodes below two levels side by side
  pub turn-parts : (P : ℕ → Type 0) (k : ℕ) (xs ys : List ℕ) → Each (λ (s : Spot). P s.n) (turn g nodes k (xs ++ ys))
      → Each (λ (s : Spot). P s.n) (turn g nodes k xs) × Each (λ (s : Spot). P s.n) (turn g nodes k ys)
  turn-parts P zero xs ys h = (tt, tt)
  turn-parts P (suc k) xs ys h =
      let Q : Spot → Type 0 = λ s. P s.n in
      let R : List ℕ → Type 0 = λ ns. Each Q (turn g nodes k ns) in
      let here = of-spots P k 0 (xs ++ ys) (each-left Q (spots k 0 (xs ++ ys)) (turn g nodes k (flat_map (children g nodes) (xs ++ ys))) h) in
      let below = turn-parts P k (flat_map (children g nodes) xs) (flat_map (children g nodes) ys)
      (subst R (flat_map-append (children g nodes) xs ys) (each-right Q (spots k 0 (xs ++ ys)) (turn g nodes k (flat_map (children g nodes) (xs ++ ys))) h)) in (
        each-append Q (spots k 0 xs) (turn g nodes k (flat_map (children g nodes) xs)) (at-spots P k 0 xs (each-left P xs ys here)) below.0,
        each-append Q (spots k 0 ys) (turn g nodes k (flat_map (children g nodes) ys)) (at-spots P k 0 ys (each-right P xs ys here)) below.1,
      )

  abbrev pub Keyed : Spot → Type 0
  Keyed spot = AreKeysInOrder g nodes spot.above spot.n

  pub keyed-spots : (k left : ℕ) (ns : List ℕ) → Each (AreKeysInOrder g nodes k) ns → Each Keyed (spots k left ns)
  keyed-spots k left [] h = tt
  keyed-spots k left (n ∷ ns) h = (h.0, keyed-spots k n ns h.1)

  pub keyed-of-spots : (k left : ℕ) (ns : List ℕ) → Each Keyed (spots k left ns) → Each (AreKeysInOrder g nodes k) ns
  keyed-of-spots k left [] h = tt
  keyed-of-spots k left (n ∷ ns) h = (h.0, keyed-of-spots k n ns h.1)

  -- the pairs under a level are those under a level below it
  pub under-lift : (i k : ℕ) (ns : List ℕ) → flat_map (under g nodes (lift i k)) ns ≡ flat_map (under g nodes k) (level_below g nodes i ns)
  under-lift zero k ns = refl
  under-lift (suc i) k ns = sym (flat_map-flat_map (under g nodes (lift i k)) (children g nodes) ns) ∙ under-lift i k (flat_map (children g nodes) ns)

  -- the keys of such records are in order
  abbrev pub AreRecordsInOrder : ℕ → List (List ℕ) → Type 0
  AreRecordsInOrder zero xs = ⊤
  AreRecordsInOrder (suc k) xs = ArePartsInOrder g.compare [] (map (part_of g (under g nodes k)) xs)

  pub records-keyed : (k n : ℕ) (xs : List (List ℕ)) → records_in nodes n ≡ xs → AreKeysInOrder g nodes k n → AreRecordsInOrder k xs
  records-keyed zero n xs is h = tt
  records-keyed (suc k) n xs is h = let P : List (List ℕ) → Type 0 = λ es. AreRecordsInOrder (suc k) es in subst P is h

  pub keyed-records : (k n : ℕ) (xs : List (List ℕ)) → records_in nodes n ≡ xs → AreRecordsInOrder k xs → AreKeysInOrder g nodes k n
  keyed-records zero n xs is h = tt
  keyed-records (suc k) n xs is h = let P : List (List ℕ) → Type 0 = λ es. AreRecordsInOrder (suc k) es in subst P (sym is) h

  pub keyed-left : (k : ℕ) (xs ys : List (List ℕ)) → AreRecordsInOrder k (xs ++ ys) → AreRecordsInOrder k xs
  keyed-left zero xs ys h = tt
  keyed-left (suc k) xs ys h =
      let P : List (K × Pairs K) → Type 0 = λ ps. ArePartsInOrder g.compare [] ps in
      parts-left g.compare [] (map (part_of g (under g nodes k)) xs) (map (part_of g (under g nodes k)) ys) (subst P (map-append (part_of g (under g nodes k)) xs ys) h)

  pub keyed-right : (k : ℕ) (xs ys : List (List ℕ)) → AreRecordsInOrder k (xs ++ ys) → AreRecordsInOrder k ys
  keyed-right zero xs ys h = tt
  keyed-right (suc k) xs ys h =
      let P : List (K × Pairs K) → Type 0 = λ ps. ArePartsInOrder g.compare [] ps in
      parts-right g.compare [] (map (part_of g (under g nodes k)) xs) (map (part_of g (under g nodes k)) ys) (subst P (map-append (part_of g (under g nodes k)) xs ys) h)

  -- ---- the key of a record in the middle

  -- there is a pair under each such record
  abbrev pub HavePairs : ℕ → List (List ℕ) → Type 0
  HavePairs zero xs = ⊤
  HavePairs (suc k) xs = Each (λ e. 0 < length (under g nodes k (g.child e))) xs

  -- the nodes below one of a level are right where they stand by themselves, but for their links: there is a pair under each
  pub turn-parts-right : (k : ℕ) (bn : List ℕ) (n : ℕ) (hn : List ℕ) → Each (IsRight g nodes) (turn g nodes k (flat_map (children g nodes) (bn ++ n ∷ hn)))
      → Each (λ (s : Spot). 0 < length (records_in nodes s.n)) (turn g nodes k (children g nodes n))
  turn-parts-right k bn n hn h =
      let Q : Spot → Type 0 = λ s. 0 < length (records_in nodes s.n) in
      let R : List ℕ → Type 0 = λ ns. Each Q (turn g nodes k ns) in
      let some : Each Q (turn g nodes k (flat_map (children g nodes) (bn ++ n ∷ hn))) =
      each-mono (IsRight g nodes) Q (turn g nodes k (flat_map (children g nodes) (bn ++ n ∷ hn))) (λ s right. records-some g nodes (IsRight g nodes) (λ spot x. x) s right) h in
      let two = turn-parts (λ (x : ℕ). 0 < length (records_in nodes x)) k (flat_map (children g nodes) bn) (children g nodes n ++ flat_map (children g nodes) hn)
      (subst R (flat_map-append (children g nodes) bn (n ∷ hn)) some) in
      (turn-parts (λ (x : ℕ). 0 < length (records_in nodes x)) k (children g nodes n) (flat_map (children g nodes) hn) two.1).0

  flat-some : (f : ℕ → Pairs K) (ns : List ℕ) → 0 < length ns → Each (λ x. 0 < length (f x)) ns → 0 < length (flat_map f ns)
  flat-some f [] some h = absurd (omega arith)
  flat-some f (x ∷ ns) some h = let here = h.0 in omega (arith, length-append (f x) (flat_map f ns))

  under-parts : (k : ℕ) (ns : List ℕ) → Each (λ x. 0 < length (records_in nodes x)) ns → Each (λ x. 0 < length (under g nodes k x)) (flat_map (children g nodes) ns) → Each (λ x. 0 < length (under g nodes (suc k) x)) ns
  under-parts k [] h below = tt
  under-parts k (x ∷ ns) h below =
      let here = h.0 in
      let count = length-map (records_in nodes x) g.child in (
        flat-some (under g nodes k) (children g nodes x) (omega arith) (each-left (λ y. 0 < length (under g nodes k y)) (children g nodes x) (flat_map (children g nodes) ns) below),
        under-parts k ns h.1 (each-right (λ y. 0 < length (under g nodes k y)) (children g nodes x) (flat_map (children g nodes) ns) below),
      )

  leaf-parts : (ns : List ℕ) → Each (λ x. 0 < length (records_in nodes x)) ns → Each (λ x. 0 < length (under g nodes 0 x)) ns
  leaf-parts [] h = tt
  leaf-parts (x ∷ ns) h = let here = h.0 in let count = length-map (records_in nodes x) (pair_of g) in (omega arith, leaf-parts ns h.1)

  -- where each node from a level on has a record, there is a pair under each node of the level
  pub some-under : (k : ℕ) (ns : List ℕ) → Each (λ (s : Spot). 0 < length (records_in nodes s.n)) (turn g nodes (suc k) ns) → Each (λ x. 0 < length (under g nodes k x)) ns
  some-under zero ns h = leaf-parts ns (of-spots (λ x. 0 < length (records_in nodes x)) 0 0 ns (each-left (λ (s : Spot). 0 < length (records_in nodes s.n)) (spots 0 0 ns) [] h))
  some-under (suc k) ns h =
      let Q : Spot → Type 0 = λ s. 0 < length (records_in nodes s.n) in
      under-parts k ns (of-spots (λ x. 0 < length (records_in nodes x)) (suc k) 0 ns (each-left Q (spots (suc k) 0 ns) (turn g nodes (suc k) (flat_map (children g nodes) ns)) h))
      (some-under k (flat_map (children g nodes) ns) (each-right Q (spots (suc k) 0 ns) (turn g nodes (suc k) (flat_map (children g nodes) ns)) h))

  pub have-pairs : (k : ℕ) (xs : List (List ℕ)) → Each (λ (s : Spot). 0 < length (records_in nodes s.n)) (turn g nodes k (map g.child xs)) → HavePairs k xs
  have-pairs zero xs h = tt
  have-pairs (suc k) xs h = each-unmap (λ x. 0 < length (under g nodes k x)) g.child xs (some-under k (map g.child xs) h)

  middle : (xs : List (List ℕ)) (c : ℕ) → c < length xs → xs ≡ take c xs ++ get_or xs c [] ∷ drop (suc c) xs
  middle [] c lt = absurd (omega arith)
  middle (x ∷ xs) zero lt = refl
  middle (x ∷ xs) (suc c) lt = ap (λ (ys : List (List ℕ)). x ∷ ys) (middle xs c (omega arith))

  rest-at : (xs : List (List ℕ)) (c : ℕ) → c < length xs → drop c xs ≡ get_or xs c [] ∷ drop (suc c) xs
  rest-at [] c lt = absurd (omega arith)
  rest-at (x ∷ xs) zero lt = refl
  rest-at (x ∷ xs) (suc c) lt = rest-at xs c (omega arith)

  module _ (total : IsTotalOrder g.compare) where
    -- it is above the pairs under the records before
    pub middle-above : (k : ℕ) (xs : List (List ℕ)) (c : ℕ) → c < length xs → Rises g.compare (content k xs) → AreRecordsInOrder k xs → HavePairs k xs
        → IsAbove g.compare (entry_key g k (get_or xs c [])) (content k (take c xs))
    middle-above zero xs c lt rises keyed some =
        let P : Pairs K → Type 0 = λ ps. Rises g.compare ps in
        rises-before g.compare (map (pair_of g) (take c xs)) (pair_of g (get_or xs c [])) (map (pair_of g) (drop (suc c) xs)) (subst P (map-split (pair_of g) xs c [] lt) rises)
    middle-above (suc k) xs c lt rises keyed some =
        let own : List ℕ → Pairs K = λ e. under g nodes k (g.child e) in
        let P : List (List ℕ) → Type 0 = λ es. AreRecordsInOrder (suc k) es in
        let S : List (List ℕ) → Type 0 = λ es. HavePairs (suc k) es in
        let Q : Pairs K → Type 0 = λ ps. IsAbove g.compare (g.index_key (get_or xs c [])) ps in
        let cut = middle xs c lt in
        subst Q (sym (flat_map-map (under g nodes k) g.child (take c xs)))
        (above-front g.compare total g.index_key own [] (take c xs) (get_or xs c []) (drop (suc c) xs) (subst P cut keyed)
        (each-left (λ e. 0 < length (under g nodes k (g.child e))) (take c xs) (get_or xs c [] ∷ drop (suc c) xs) (subst S cut some)))

    -- and at most those under itself and the records behind
    pub middle-most : (k : ℕ) (xs : List (List ℕ)) (c : ℕ) → c < length xs → Rises g.compare (content k xs) → AreRecordsInOrder k xs → HavePairs k xs
        → IsAtMost g.compare (entry_key g k (get_or xs c [])) (content k (drop c xs))
    middle-most zero xs c lt rises keyed some =
        let P : Pairs K → Type 0 = λ ps. Rises g.compare ps in
        let Q : List (List ℕ) → Type 0 = λ es. IsAtMost g.compare (g.leaf_key (get_or xs c [])) (map (pair_of g) es) in
        subst Q (sym (rest-at xs c lt))
        (rises-least g.compare total (pair_of g (get_or xs c [])) (map (pair_of g) (drop (suc c) xs))
        (rises-right g.compare (map (pair_of g) (take c xs)) (map (pair_of g) (get_or xs c [] ∷ drop (suc c) xs)) (subst P (map-split (pair_of g) xs c [] lt) rises)))
    middle-most (suc k) xs c lt rises keyed some =
        let own : List ℕ → Pairs K = λ e. under g nodes k (g.child e) in
        let P : List (List ℕ) → Type 0 = λ es. AreRecordsInOrder (suc k) es in
        let S : List (List ℕ) → Type 0 = λ es. HavePairs (suc k) es in
        let Q : List (List ℕ) → Type 0 = λ es. IsAtMost g.compare (g.index_key (get_or xs c [])) (flat_map (under g nodes k) (map g.child es)) in
        let R : Pairs K → Type 0 = λ ps. IsAtMost g.compare (g.index_key (get_or xs c [])) ps in
        let cut = middle xs c lt in
        let rest = get_or xs c [] ∷ drop (suc c) xs in
        subst Q (sym (rest-at xs c lt))
        (subst R (sym (flat_map-map (under g nodes k) g.child rest))
        (first-most g.compare total g.index_key own [] (get_or xs c []) (drop (suc c) xs) (keyed-right (suc k) (take c xs) rest (subst P cut keyed))
        (each-right (λ e. 0 < length (under g nodes k (g.child e))) (take c xs) rest (subst S cut some))))

module _ {K : Type 0} (g : Ghosts K) (old new : Store) where
  pub records-kept : (k : ℕ) (xs : List (List ℕ)) → Each (KeepsAt g old new) (turn g old k (map g.child xs)) → AreRecordsInOrder g old k xs → AreRecordsInOrder g new k xs
  records-kept zero xs below keyed = tt
  records-kept (suc k) xs below keyed =
      let P : List (K × Pairs K) → Type 0 = λ ps. ArePartsInOrder g.compare [] ps in
      subst P (sym (parts-kept g old new k xs (under-kept g old new k (map g.child xs) below))) keyed

  -- records whose children, and all below them, have kept their records
  pub content-kept : (k : ℕ) (xs : List (List ℕ)) → Each (KeepsAt g old new) (turn g old k (map g.child xs)) → content g new k xs ≡ content g old k xs
  content-kept zero xs h = refl
  content-kept (suc k) xs h = same-flat g old new k (map g.child xs) (under-kept g old new k (map g.child xs) h)

  pub level-under : (k : ℕ) (ns : List ℕ) → Each (KeepsRecords g old new) ns → Each (KeepsAt g old new) (turn g old k (flat_map (children g old) ns)) → Each (KeepsUnder g old new k) ns
  level-under k ns here below = under-kept g old new k ns (each-append (KeepsAt g old new) (spots k 0 ns) (turn g old k (flat_map (children g old) ns)) (at-spots (KeepsRecords g old new) k 0 ns here) below)

  node-keyed : (k n : ℕ) → KeepsRecords g old new n → Each (KeepsAt g old new) (turn g old k (children g old n)) → AreKeysInOrder g old k n → AreKeysInOrder g new k n
  node-keyed zero n same below keyed = tt
  node-keyed (suc k) n same below keyed = keys-kept g old new k n same (under-kept g old new k (children g old n) below) keyed

  pub nodes-keyed : (k : ℕ) (ns : List ℕ) → Each (KeepsRecords g old new) ns → Each (KeepsAt g old new) (turn g old k (flat_map (children g old) ns))
      → Each (AreKeysInOrder g old k) ns → Each (AreKeysInOrder g new k) ns
  nodes-keyed k [] same below keyed = tt
  nodes-keyed k (n ∷ ns) same below keyed =
      let parts = turn-parts g old (KeepsRecords g old new) k (children g old n) (flat_map (children g old) ns) below in
      (node-keyed k n same.0 parts.0 keyed.0, nodes-keyed k ns same.1 parts.1 keyed.1)
