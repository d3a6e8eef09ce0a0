-- The way down from a node to a leaf.
use Rattle.std.proofs.Common.{◌≡◌, ℕ, zero, suc, ◌-◌, ◌<◌, ◌≤◌, List, [], ◌∷◌, ◌++◌, length, map, get_or, take, drop, refl, sym, ap, ◌∙◌, subst, arith, append_assoc}
use Rattle.std.specs.Prelude.{true, Result}
use Rattle.std.specs.Cmp.{IsTotalOrder}
use Rattle.std.specs.List.{flat_map, prefix_len}
use Rattle.std.proofs.lemmas.List.Concat.{flat_map-append}
use Rattle.std.proofs.lemmas.List.Folds.{flat_map-map}
use Rattle.std.proofs.lemmas.List.Sums.{prefix_len-le-length}
use Rattle.hfs_btree.specs.declared.key.Key.{Ghosts}
use Rattle.hfs_btree.specs.Pairs.{Pairs, IsAbove}
use Rattle.hfs_btree.proofs.PairLemmas.{IsBelow}
use Rattle.hfs_fields.specs.Each.{Each}
use Rattle.hfs_fields.proofs.ElementLemmas.{each-left, each-right, each-unmap, each-append, each-both}
use Rattle.hfs_btree.specs.declared.node.Node.{Node}
use Rattle.hfs_btree.specs.declared.fault.NodeFault.{NodeFault}
use Rattle.hfs_btree.specs.Tree.{Store, Spot, records_in, records_of, children, pairs, spots, first_of, turn, under, level_below, last_level}
use Rattle.hfs_btree.specs.Header.{header_in, depth_of, root_level, leaves, tree_turn, tree_content}
use Rattle.hfs_btree.specs.Sound.{IsRight, AreKeysInOrder, HasStructure, IsSound}
use Rattle.hfs_btree.specs.Search.{is_not_above, child_for, leaf_under, leaf_for}
use Rattle.hfs_btree.proofs.SearchLemmas.{IsLeafFor}
use Rattle.hfs_btree.proofs.PartLemmas.{beside-place}
use Rattle.hfs_btree.proofs.DecodedLemmas.{decoded-within}
use Rattle.hfs_btree.proofs.LevelLemmas.{flat_map-flat_map, map-split, at-spot, records-some, under-some}

regroup : (a m b : List ℕ) (c : ℕ) (n : List ℕ) → a ++ ((m ++ c ∷ n) ++ b) ≡ (a ++ m) ++ c ∷ (n ++ b)
regroup a m b c n = simp append_assoc

-- a level's children, about one of them
pub next-split : {K : Type 0} (g : Ghosts K) (nodes : Store) (before : List ℕ) (n : ℕ) (behind : List ℕ) (q : ℕ) → q < length (records_in nodes n)
    → flat_map (children g nodes) (before ++ n ∷ behind)
    ≡ (flat_map (children g nodes) before ++ map g.child (take q (records_in nodes n)))
    ++ g.child (get_or (records_in nodes n) q []) ∷ (map g.child (drop (suc q) (records_in nodes n)) ++ flat_map (children g nodes) behind)
next-split g nodes before n behind q lt =
    flat_map-append (children g nodes) before (n ∷ behind)
    ∙ ap (λ (ns : List ℕ). flat_map (children g nodes) before ++ (ns ++ flat_map (children g nodes) behind)) (map-split g.child (records_in nodes n) q [] lt)
    ∙ regroup (flat_map (children g nodes) before) (map g.child (take q (records_in nodes n))) (flat_map (children g nodes) behind) (g.child (get_or (records_in nodes n) q [])) (map g.child (drop (suc q) (records_in nodes n)))

-- a node that is right where it stands, and whose keys are in order
abbrev pub IsRightInOrder : {K : Type 0} → Ghosts K → Store → Spot → Type 0
IsRightInOrder g nodes spot = IsRight g nodes spot × AreKeysInOrder g nodes spot.above spot.n

-- a node of a level that is so many levels above the leaves, where all nodes from this level on are right
pub record IsOnWay {K : Type 0} (g : Ghosts K) (nodes : Store) (k n : ℕ) : Type 0 where
  pub before : List ℕ
  pub behind : List ℕ
  pub right : Each (IsRight g nodes) (turn g nodes (suc k) (before ++ n ∷ behind))

pub place-within : {K : Type 0} (g : Ghosts K) (t : K) (es : List (List ℕ)) → 0 < length es → prefix_len (is_not_above g t) es - 1 < length es
place-within g t es some = omega (arith, prefix_len-le-length (is_not_above g t) es)

module _ {K : Type 0} (g : Ghosts K) (nodes : Store) where
  -- the node itself, linked to the first of those behind it
  pub way-node : (k n : ℕ) (way : IsOnWay g nodes k n) → (l : ℕ) × IsRight g nodes (record { left = l; n = n; right = first_of way.behind; above = k })
  way-node k n way = at-spot (IsRight g nodes) k 0 way.before n way.behind (each-left _ (spots k 0 (way.before ++ n ∷ way.behind)) _ way.right)

  pub way-some : (k n : ℕ) → IsOnWay g nodes k n → 0 < length (records_in nodes n)
  way-some k n way = records-some g nodes (IsRight g nodes) (λ spot h. h) _ (way-node k n way).1

  pub way-down : (k n q : ℕ) → IsOnWay g nodes (suc k) n → q < length (records_in nodes n) → IsOnWay g nodes k (g.child (get_or (records_in nodes n) q []))
  way-down k n q way lt =
      let below = each-right _ (spots (suc k) 0 (way.before ++ n ∷ way.behind)) (turn g nodes (suc k) (flat_map (children g nodes) (way.before ++ n ∷ way.behind))) way.right in
      let P : List ℕ → Type 0 = λ ns. Each (IsRight g nodes) (turn g nodes (suc k) ns) in
      record {
        before = flat_map (children g nodes) way.before ++ map g.child (take q (records_in nodes n));
        behind = map g.child (drop (suc q) (records_in nodes n)) ++ flat_map (children g nodes) way.behind;
        right = subst P (next-split g nodes way.before n way.behind q lt) below;
      }

-- ---- where the way to a key ends

module _ {K : Type 0} (g : Ghosts K) (total : IsTotalOrder g.compare) (nodes : Store) (t : K) where
  record Ends (k n : ℕ) (ns : List ℕ) : Type 0 where
    before : List ℕ
    behind : List ℕ
    split : level_below g nodes k ns ≡ before ++ leaf_under g nodes t k n ∷ behind
    below : IsAbove g.compare t (flat_map (pairs g nodes) before)
    above : IsBelow g.compare t (flat_map (pairs g nodes) behind)

  module _ (k n : ℕ) (before behind : List ℕ) (fine : Each (IsRightInOrder g nodes) (turn g nodes (suc (suc k)) (before ++ n ∷ behind))) where
    abbrev es : List (List ℕ)
    es = records_in nodes n

    abbrev own : List ℕ → Pairs K
    own e = under g nodes k (g.child e)

    abbrev q : ℕ
    q = prefix_len (is_not_above g t) es - 1

    pub fact : (l : ℕ) × IsRightInOrder g nodes (record { left = l; n = n; right = first_of behind; above = suc k })
    fact = at-spot (IsRightInOrder g nodes) (suc k) 0 before n behind (each-left (IsRightInOrder g nodes) (spots (suc k) 0 (before ++ n ∷ behind)) _ fine)

    entries : 0 < length es
    entries = records-some g nodes (IsRightInOrder g nodes) (λ spot h. h.0) _ fact.1.0

    split : flat_map (children g nodes) (before ++ n ∷ behind)
        ≡ (flat_map (children g nodes) before ++ map g.child (take q es)) ++ g.child (get_or es q []) ∷ (map g.child (drop (suc q) es) ++ flat_map (children g nodes) behind)
    split = next-split g nodes before n behind q (place-within g t es entries)

    below : Each (IsRightInOrder g nodes) (turn g nodes (suc k) (flat_map (children g nodes) (before ++ n ∷ behind)))
    below = each-right (IsRightInOrder g nodes) (spots (suc k) 0 (before ++ n ∷ behind)) (turn g nodes (suc k) (flat_map (children g nodes) (before ++ n ∷ behind))) fine

    pub parts-some : Each (λ e. 0 < length (own e)) es
    parts-some =
        let Q : ℕ → Type 0 = λ m. 0 < length (under g nodes k m) in
        let all : Each Q (flat_map (children g nodes) (before ++ n ∷ behind)) = under-some g nodes (IsRightInOrder g nodes) (λ spot h. h.0) k (flat_map (children g nodes) (before ++ n ∷ behind)) below in
        let R : List ℕ → Type 0 = λ ns. Each Q ns in
        let parted = subst R (flat_map-append (children g nodes) before (n ∷ behind)) all in
        each-unmap Q g.child es (each-left Q (map g.child es) (flat_map (children g nodes) behind) (each-right Q (flat_map (children g nodes) before) (children g nodes n ++ flat_map (children g nodes) behind) parted))

    beside : IsAbove g.compare t (flat_map own (take q es)) × IsBelow g.compare t (flat_map own (drop (suc q) es))
    beside = beside-place g.compare total t g.index_key own es fact.1.1 parts-some

    spread : (xs : List (List ℕ)) → flat_map (under g nodes k) (map g.child xs) ≡ flat_map own xs
    spread xs = flat_map-map (under g nodes k) g.child xs

    down-below : IsAbove g.compare t (flat_map (under g nodes (suc k)) before) → IsAbove g.compare t (flat_map (under g nodes k) (flat_map (children g nodes) before ++ map g.child (take q es)))
    down-below h =
        let P : Pairs K → Type 0 = λ ps. IsAbove g.compare t ps in
        subst P (sym (flat_map-append (under g nodes k) (flat_map (children g nodes) before) (map g.child (take q es))))
        (each-append _ (flat_map (under g nodes k) (flat_map (children g nodes) before)) (flat_map (under g nodes k) (map g.child (take q es)))
        (subst P (sym (flat_map-flat_map (under g nodes k) (children g nodes) before)) h) (subst P (sym (spread (take q es))) beside.0))

    down-above : IsBelow g.compare t (flat_map (under g nodes (suc k)) behind) → IsBelow g.compare t (flat_map (under g nodes k) (map g.child (drop (suc q) es) ++ flat_map (children g nodes) behind))
    down-above h =
        let P : Pairs K → Type 0 = λ ps. IsBelow g.compare t ps in
        subst P (sym (flat_map-append (under g nodes k) (map g.child (drop (suc q) es)) (flat_map (children g nodes) behind)))
        (each-append _ (flat_map (under g nodes k) (map g.child (drop (suc q) es))) (flat_map (under g nodes k) (flat_map (children g nodes) behind))
        (subst P (sym (spread (drop (suc q) es))) beside.1) (subst P (sym (flat_map-flat_map (under g nodes k) (children g nodes) behind)) h))

  ends : (k n : ℕ) (before behind : List ℕ) → Each (IsRightInOrder g nodes) (turn g nodes (suc k) (before ++ n ∷ behind)) → IsAbove g.compare t (flat_map (under g nodes k) before)
      → IsBelow g.compare t (flat_map (under g nodes k) behind) → Ends k n (before ++ n ∷ behind)
  ends zero n before behind fine below above = record { before = before; behind = behind; split = refl; below = below; above = above }
  ends (suc k) n before behind fine below' above' =
      let P : List ℕ → Type 0 = λ ns. Each (IsRightInOrder g nodes) (turn g nodes (suc k) ns) in
      let cut = split k n before behind fine in
      let rest = ends k (child_for g t (records_in nodes n)) _ _ (subst P cut (below k n before behind fine)) (down-below k n before behind fine below') (down-above k n before behind fine above') in
      record {
        before = rest.before;
        behind = rest.behind;
        split = ap (level_below g nodes k) cut ∙ rest.split;
        below = rest.below;
        above = rest.above;
      }

-- ---- the same of a whole tree

module _ {K : Type 0} (g : Ghosts K) (nodes : Store) (k : ℕ) (deep : depth_of nodes ≡ suc k) where
  pub way-root : HasStructure g nodes → IsOnWay g nodes k (header_in nodes).root
  way-root structure =
      let P : ℕ → Type 0 = λ d. Each (IsRight g nodes) (turn g nodes d (root_level nodes)) in
      record { before = []; behind = []; right = subst P deep structure.levels.each }

  pub leaf-for : IsSound g nodes → IsTotalOrder g.compare → (t : K) → IsLeafFor g nodes t (leaf_for g nodes t)
  leaf-for sound total t =
      let Q : Spot → Type 0 = IsRightInOrder g nodes in
      let P : ℕ → Type 0 = λ d. Each Q (turn g nodes d (root_level nodes)) in
      let all = subst P deep (each-both (IsRight g nodes) (λ spot. AreKeysInOrder g nodes spot.above spot.n) (tree_turn g nodes) sound.structure.levels.each sound.ordered.keys) in
      let ended = ends g total nodes t k (header_in nodes).root [] [] all tt tt in
      let one : depth_of nodes - 1 ≡ k = omega arith in
      record {
        before = ended.before;
        behind = ended.behind;
        split = ap (λ (d : ℕ). last_level g nodes d (root_level nodes)) deep ∙ ended.split ∙ ap (λ (d : ℕ). ended.before ++ leaf_under g nodes t d (header_in nodes).root ∷ ended.behind) (sym one);
        below = ended.below;
        above = ended.above;
      }

-- ---- the way, as a loop goes it

module _ {K : Type 0} (g : Ghosts K) (nodes : Store) where
  pub way-within : (k n : ℕ) → IsOnWay g nodes k n → n < length nodes
  way-within k n way = let node = (way-node g nodes k n way).1 in decoded-within nodes n node.value node.decodes

  pub index-entries : (b n : ℕ) → 0 < b → IsOnWay g nodes b n → Each (λ e. g.is_index e ≡ true) (records_in nodes n)
  index-entries zero n some way = absurd (omega arith)
  index-entries (suc k) n some way =
      let node = (way-node g nodes (suc k) n way).1 in
      let P : Result Node NodeFault → Type 0 = λ r. Each (λ e. g.is_index e ≡ true) (records_of r) in
      subst P (sym node.decodes) node.whole

  pub way-for : (t : K) (b n : ℕ) → 0 < b → IsOnWay g nodes b n → IsOnWay g nodes (b - 1) (child_for g t (records_in nodes n))
  way-for t zero n some way = absurd (omega arith)
  way-for t (suc k) n some way =
      let one : suc k - 1 ≡ k = omega arith in
      let P : ℕ → Type 0 = λ j. IsOnWay g nodes j (child_for g t (records_in nodes n)) in
      subst P (sym one) (way-down g nodes k n _ way (place-within g t (records_in nodes n) (way-some g nodes (suc k) n way)))

  pub leaf-step : (t : K) (b n : ℕ) → 0 < b → leaf_under g nodes t (b - 1) (child_for g t (records_in nodes n)) ≡ leaf_under g nodes t b n
  leaf-step t zero n some = absurd (omega arith)
  leaf-step t (suc k) n some = let one : suc k - 1 ≡ k = omega arith in ap (λ (j : ℕ). leaf_under g nodes t j (child_for g t (records_in nodes n))) one

  pub leaf-end : (t : K) (b n : ℕ) → b ≤ 0 → leaf_under g nodes t b n ≡ n
  leaf-end t b n none = let zero' : b ≡ 0 = omega arith in ap (λ (j : ℕ). leaf_under g nodes t j n) zero'

  -- ---- the leaves

  leaf-spots : (k : ℕ) (ns : List ℕ) → Each (IsRight g nodes) (turn g nodes (suc k) ns) → Each (IsRight g nodes) (spots 0 0 (level_below g nodes k ns))
  leaf-spots zero ns h = each-left _ (spots 0 0 ns) [] h
  leaf-spots (suc k) ns h = leaf-spots k (flat_map (children g nodes) ns) (each-right _ (spots (suc k) 0 ns) (turn g nodes (suc k) (flat_map (children g nodes) ns)) h)

  pub leaves-right : (d : ℕ) (ns : List ℕ) → Each (IsRight g nodes) (turn g nodes d ns) → Each (IsRight g nodes) (spots 0 0 (last_level g nodes d ns))
  leaves-right zero ns h = tt
  leaves-right (suc k) ns h = leaf-spots k ns h

  module _ (structure : HasStructure g nodes) where
    -- a leaf, linked to the first of those behind it
    pub leaf-node : (before : List ℕ) (n : ℕ) (behind : List ℕ) → leaves g nodes ≡ before ++ n ∷ behind
        → (l : ℕ) × IsRight g nodes (record { left = l; n = n; right = first_of behind; above = 0 })
    leaf-node before n behind split =
        let P : List ℕ → Type 0 = λ ns. Each (IsRight g nodes) (spots 0 0 ns) in
        at-spot (IsRight g nodes) 0 0 before n behind (subst P split (leaves-right (depth_of nodes) (root_level nodes) structure.levels.each))

    pub root-way : 0 < depth_of nodes → IsOnWay g nodes (depth_of nodes - 1) (header_in nodes).root
    root-way some = way-root g nodes (depth_of nodes - 1) (omega arith) structure

  pub leaf-found : IsSound g nodes → IsTotalOrder g.compare → (t : K) → 0 < depth_of nodes → IsLeafFor g nodes t (leaf_for g nodes t)
  leaf-found sound total t some = leaf-for g nodes (depth_of nodes - 1) (omega arith) sound total t

  -- the records of a leaf
  pub leaf-entries : (l n r : ℕ) → IsRight g nodes (record { left = l; n = n; right = r; above = 0 }) → Each (λ e. g.is_leaf e ≡ true) (records_in nodes n)
  leaf-entries l n r node =
      let P : Result Node NodeFault → Type 0 = λ x. Each (λ e. g.is_leaf e ≡ true) (records_of x) in
      subst P (sym node.decodes) node.whole

  -- the content about a leaf
  pub content-about : (before : List ℕ) (n : ℕ) (behind : List ℕ) → leaves g nodes ≡ before ++ n ∷ behind
      → tree_content g nodes ≡ flat_map (pairs g nodes) before ++ (pairs g nodes n ++ flat_map (pairs g nodes) behind)
  content-about before n behind split = ap (flat_map (pairs g nodes)) split ∙ flat_map-append (pairs g nodes) before (n ∷ behind)

  pub content-none : depth_of nodes ≡ 0 → tree_content g nodes ≡ []
  content-none none = ap (λ (d : ℕ). flat_map (pairs g nodes) (last_level g nodes d (root_level nodes))) none
