-- What a cut reads of the tree: the node above, the one that is cut, and the one behind it.
use Rattle.std.proofs.Common.{◌≡◌, ◌≢◌, ℕ, zero, suc, ◌+◌, ◌<◌, ◌≤◌, List, [], ◌∷◌, ◌++◌, length, get_or, take, drop, refl, sym, ap, ◌∙◌, subst, arith}
use Rattle.std.specs.Prelude.{true, false, Bool, All, Ok, Result, insert}
use Rattle.std.specs.Cmp.{IsTotalOrder}
use Rattle.std.proofs.lemmas.List.{get_or-drop, length-drop}
use Rattle.std.proofs.lemmas.List.Elements.{All-nil, All-cons}
use Rattle.hfs_btree.specs.declared.node.Node.{Node}
use Rattle.hfs_btree.specs.declared.fault.NodeFault.{NodeFault}
use Rattle.hfs_btree.specs.Node.{size_of}
use Rattle.hfs_btree.proofs.SizeLemmas.{size_of-insert}
use Rattle.hfs_btree.specs.declared.key.Key.{Ghosts}
use Rattle.hfs_fields.specs.Each.{Each}
use Rattle.hfs_fields.proofs.ElementLemmas.{each-at, each-right}
use Rattle.hfs_btree.specs.Tree.{Store, Spot, node_in, records_in, records_of, reads_at, spots, first_of, turn}
use Rattle.hfs_btree.specs.Header.{root_level}
use Rattle.hfs_btree.specs.Sound.{IsSound, IsRight, IsStray}
use Rattle.hfs_btree_edits.specs.Stored.{IsLink, HasStored}
use Rattle.hfs_btree_insertion.specs.Stored.{HasLinked}
use Rattle.hfs_btree_insertion.specs.Cut.{IsCut, IsBranch, child_at, IsRoomyCut, HasCutAt}
use Rattle.hfs_btree_edits.specs.LevelParts.{entry_key}
use Rattle.hfs_btree.proofs.DecodedLemmas.{decoded-within}
use Rattle.hfs_btree.proofs.DescentLemmas.{IsOnWay, way-node, way-down, way-within, index-entries}
use Rattle.hfs_btree_edits.proofs.DecodesLemmas.{decodes-as}
use Rattle.hfs_btree_edits.proofs.LevelPartLemmas.{upper, turn-split}
use Rattle.hfs_btree_insertion.proofs.Cuts.{hn}
use Rattle.hfs_btree_insertion.proofs.PutWhole.{head-long}
use Rattle.hfs_btree_insertion.proofs.SplitWrites.{IsEntry, split-writes, split-sound}

-- ---- a record of a level

module _ {K : Type 0} (g : Ghosts K) where
  pub reads-leaf : (k : ℕ) (e : List ℕ) → k ≡ 0 → reads_at g k e ≡ true → g.is_leaf e ≡ true
  reads-leaf zero e z h = h
  reads-leaf (suc k) e z h = absurd (omega (arith, z))

  pub reads-index : (k : ℕ) (e : List ℕ) → k ≢ 0 → reads_at g k e ≡ true → g.is_index e ≡ true
  reads-index zero e some h = absurd (some refl)
  reads-index (suc k) e some h = h

  -- it is short
  reads-short : ((e : List ℕ) → g.is_leaf e ≡ true → length e ≤ 140) → ((e : List ℕ) → g.is_index e ≡ true → length e ≤ 42) → (k : ℕ) (e : List ℕ) → reads_at g k e ≡ true → length e ≤ 140
  reads-short leaf index zero e h = leaf e h
  reads-short leaf index (suc k) e h = omega (arith, index e h)

  pub all-short : ((e : List ℕ) → g.is_leaf e ≡ true → length e ≤ 140) → ((e : List ℕ) → g.is_index e ≡ true → length e ≤ 42) → (k : ℕ) (es : List (List ℕ)) → Each (λ e. reads_at g k e ≡ true) es
      → All (λ e. length e ≤ 140) es
  all-short leaf index k [] h = All-nil (λ (e : List ℕ). length e ≤ 140)
  all-short leaf index k (e ∷ es) h = All-cons (λ (e' : List ℕ). length e' ≤ 140) e es (reads-short leaf index k e h.0) (all-short leaf index k es h.1)

behind-link : {K : Type 0} (g : Ghosts K) (nodes : Store) (k left : ℕ) (before : List ℕ) (n : ℕ) (behind : List ℕ) → Each (IsRight g nodes) (spots k left (before ++ n ∷ behind)) → IsLink nodes (first_of behind)
behind-link g nodes k left [] n [] h = λ some. absurd (some refl)
behind-link g nodes k left [] n (m ∷ behind) h = λ some. decodes-as nodes m h.1.0.value h.1.0.decodes
behind-link g nodes k left (b ∷ before) n behind h = behind-link g nodes k b before n behind h.1

abbrev ok_of : Node → Result Node NodeFault
ok_of v = Ok v

same-value : (v w : Node) → ok_of v ≡ ok_of w → v ≡ w
same-value v w e = cc

module _ {K : Type 0} (g : Ghosts K) (old : Store) (sound : IsSound g old) (k p q : ℕ) (b : IsBranch g old k p q) where
  abbrev n : ℕ
  n = child_at g old p q

  pub parent-way : IsOnWay g old (suc k) p
  parent-way =
      let U = upper g old b.i (suc k) (root_level old) in
      let P : List Spot → Type 0 = λ ss. Each (IsRight g old) ss in
      let shape = ap (λ (d : ℕ). turn g old d (root_level old)) b.deep ∙ turn-split g old b.i (suc k) (root_level old) ∙ ap (λ (ns : List ℕ). U ++ turn g old (suc (suc k)) ns) b.level in
      record { before = b.before; behind = b.behind; right = each-right (IsRight g old) U (turn g old (suc (suc k)) (b.before ++ p ∷ b.behind)) (subst P shape sound.structure.levels.each) }

  pub child-way : IsOnWay g old k n
  child-way = way-down g old k p q parent-way b.within

  pub parent-within : p < length old
  parent-within = way-within g old (suc k) p parent-way

  pub child-within : n < length old
  child-within = way-within g old k n child-way

  -- the nodes as they were loaded
  module _ (node : Node) (was_node : node_in old n ≡ Ok node) where
    pub node-records : node.records ≡ records_in old n
    node-records = sym (ap records_of was_node)

    node-spot : (l : ℕ) × IsRight g old (record { left = l; n = n; right = first_of child-way.behind; above = k })
    node-spot = way-node g old k n child-way

    right-is : node.forward ≡ first_of child-way.behind
    right-is = ap (λ (v : Node). v.forward) (same-value node node-spot.1.value (sym was_node ∙ node-spot.1.decodes)) ∙ node-spot.1.right

    pub right-link : IsLink old node.forward
    right-link =
        let P : ℕ → Type 0 = λ x. IsLink old x in
        subst P (sym right-is) (behind-link g old k 0 child-way.before n child-way.behind
        (Rattle.hfs_fields.proofs.ElementLemmas.each-left (IsRight g old) (spots k 0 (child-way.before ++ n ∷ child-way.behind)) _ child-way.right))

  -- ---- the cut

  module _ (above node : Node) (was_above : node_in old p ≡ Ok above) (was_node : node_in old n ≡ Ok node) (m : ℕ) (stray : IsStray g old m) where
    abbrev pub cut : IsCut g old b.i k p n m q
    cut = record {
      deep = b.deep;
      before = b.before;
      behind = b.behind;
      level = b.level;
      within = b.within;
      child = refl;
      stray = stray;
      above = above;
      node = node;
      was_above = was_above;
      was_node = was_node;
    }

    module _ (c : ℕ) (some : 0 < c) (less : c < length (records_in old n)) (entry : List ℕ) (is : IsEntry g old b.i k p n m q cut sound.structure entry)
        (keyed : g.index_key entry ≡ entry_key g k (get_or (records_in old n) c [])) (x y z : Store)
        (sp : HasStored p (record above { records = insert above.records (suc q) entry }) old x)
        (sn : HasStored n (record node { forward = m; records = take c node.records }) x y)
        (sm : HasStored m (record node { backward = n; records = drop c node.records }) y z) where
      pub cut-done : (w : Store) (leaves : Bool) (key : K) (len : ℕ) → IsTotalOrder g.compare → (leaves ≡ true → k ≡ 0) → (leaves ≡ false → k ≢ 0) → HasLinked node.forward m leaves z w
          → IsRoomyCut g old key k n c len → HasCutAt g key len old w k p q m
      cut-done w leaves key len total bottom upper' linked room =
          let forth = Rattle.hfs_btree_insertion.proofs.Cuts.forward-is g old b.i k p n m q cut sound.structure in
          let L : ℕ → Type 0 = λ r. HasLinked r m leaves z w in
          let F : List (List ℕ) → Type 0 = λ xs. HasStored n (record node { forward = m; records = take c xs }) x y in
          let S : List (List ℕ) → Type 0 = λ xs. HasStored m (record node { backward = n; records = drop c xs }) y z in
          let first = subst F (node-records node was_node) sn in
          let second = subst S (node-records node was_node) sm in
          let link = subst L forth linked in
          let whole = split-sound g old b.i k p n m q c cut sound.structure some less entry is keyed x y z sp first second w leaves bottom upper' link total sound in
          record {
            i = b.i;
            c = c;
            split = split-writes g old b.i k p n m q c cut sound.structure some less entry is keyed x y z sp first second w leaves bottom upper' link;
            sound = whole.0;
            content = whole.1;
            room = room;
          }
