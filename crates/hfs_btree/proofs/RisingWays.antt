-- The way down through nodes whose keys are in order: they rise, so that a search by halves finds the child.
use Rattle.std.proofs.Common.{◌≡◌, ℕ, zero, suc, ◌-◌, ◌<◌, List, [], ◌∷◌, ◌++◌, length, get_or, sym, ap, ◌∙◌, subst, arith}
use Rattle.std.specs.Cmp.{IsTotalOrder}
use Rattle.std.specs.List.{flat_map}
use Rattle.hfs_btree.specs.Node.{node_of}
use Rattle.hfs_btree.specs.declared.key.Key.{Ghosts}
use Rattle.hfs_btree.specs.Tree.{Store, records_in, records_of, children, spots, turn, under}
use Rattle.hfs_btree.specs.Header.{header_in, depth_of, root_level, tree_turn}
use Rattle.hfs_btree.specs.Pairs.{Pairs}
use Rattle.hfs_btree.specs.Search.{child_for, IsRisingFor}
use Rattle.hfs_btree.specs.Sound.{AreKeysInOrder, IsRight, IsSound}
use Rattle.hfs_fields.specs.Each.{Each}
use Rattle.hfs_fields.proofs.ElementLemmas.{each-both, each-mono, each-right}
use Rattle.hfs_btree.proofs.DecodedLemmas.{records-read}
use Rattle.hfs_btree.proofs.DescentLemmas.{IsOnWay, IsRightInOrder, fact, next-split, parts-some, place-within, way-some}
use Rattle.hfs_btree.proofs.PartLemmas.{earlier-fit}

module _ {K : Type 0} (g : Ghosts K) (nodes : Store) where
  -- a node of a level that is so many levels above the leaves, where all nodes from this level on are right and their keys in order
  pub record IsOnRisingWay (k n : ℕ) : Type 0 where
    pub before : List ℕ
    pub behind : List ℕ
    pub fine : Each (IsRightInOrder g nodes) (turn g nodes (suc k) (before ++ n ∷ behind))

  pub on-way : (k n : ℕ) → IsOnRisingWay k n → IsOnWay g nodes k n
  on-way k n at = record {
    before = at.before;
    behind = at.behind;
    right = each-mono (IsRightInOrder g nodes) (IsRight g nodes) (turn g nodes (suc k) (at.before ++ n ∷ at.behind)) (λ spot h. h.0) at.fine;
  }

  pub rising-root : IsSound g nodes → 0 < depth_of nodes → IsOnRisingWay (depth_of nodes - 1) (header_in nodes).root
  rising-root sound some =
      let deep : depth_of nodes ≡ suc (depth_of nodes - 1) = omega (arith, some) in
      let P : ℕ → Type 0 = λ d. Each (IsRightInOrder g nodes) (turn g nodes d (root_level nodes)) in
      let all = each-both (IsRight g nodes) (λ spot. AreKeysInOrder g nodes spot.above spot.n) (tree_turn g nodes) sound.structure.levels.each sound.ordered.keys in
      record { before = []; behind = []; fine = subst P deep all }

  rising-down : (k n q : ℕ) → IsOnRisingWay (suc k) n → q < length (records_in nodes n) → IsOnRisingWay k (g.child (get_or (records_in nodes n) q []))
  rising-down k n q at lt =
      let level = at.before ++ n ∷ at.behind in
      let P : List ℕ → Type 0 = λ ns. Each (IsRightInOrder g nodes) (turn g nodes (suc k) ns) in
      let below = each-right (IsRightInOrder g nodes) (spots (suc k) 0 level) (turn g nodes (suc k) (flat_map (children g nodes) level)) at.fine in
      record { before = _; behind = _; fine = subst P (next-split g nodes at.before n at.behind q lt) below }

  -- one level further down
  rising-for : (t : K) (b n : ℕ) → 0 < b → IsOnRisingWay b n → IsOnRisingWay (b - 1) (child_for g t (records_in nodes n))
  rising-for t zero n some at = absurd (omega (arith, some))
  rising-for t (suc k) n some at =
      let one : suc k - 1 ≡ k = omega arith in
      let P : ℕ → Type 0 = λ j. IsOnRisingWay j (child_for g t (records_in nodes n)) in
      subst P (sym one) (rising-down k n _ at (place-within g t (records_in nodes n) (way-some g nodes (suc k) n (on-way (suc k) n at))))

  -- ---- what was read of it

  pub rising-next : (t : K) (b n m : ℕ) (bytes : List ℕ) → 0 < b → IsOnRisingWay b n → bytes ≡ get_or nodes n [] → m ≡ child_for g t (records_of (node_of bytes)) → IsOnRisingWay (b - 1) m
  rising-next t b n m bytes some at read is =
      let P : ℕ → Type 0 = λ x. IsOnRisingWay (b - 1) x in
      subst P (sym (is ∙ ap (child_for g t) (records-read nodes n bytes read))) (rising-for t b n some at)

  module _ (total : IsTotalOrder g.compare) (t : K) where
    rises : (b n : ℕ) → 0 < b → IsOnRisingWay b n → IsRisingFor g t (records_in nodes n)
    rises zero n some at = absurd (omega (arith, some))
    rises (suc k) n some at =
        let keyed = (fact g total nodes t k n at.before at.behind at.fine).1.1 in
        let pairs = parts-some g total nodes t k n at.before at.behind at.fine in
        let own : List ℕ → Pairs K = λ e. under g nodes k (g.child e) in
        λ i j le lt good. earlier-fit g.compare total t g.index_key own [] j (records_in nodes n) lt keyed pairs good i le

    pub rising-read : (b n : ℕ) (bytes : List ℕ) → 0 < b → IsOnRisingWay b n → bytes ≡ get_or nodes n [] → IsRisingFor g t (records_of (node_of bytes))
    rising-read b n bytes some at read =
        let P : List (List ℕ) → Type 0 = λ es. IsRisingFor g t es in
        subst P (sym (records-read nodes n bytes read)) (rises b n some at)
