-- A record that was put into the leaf where the search for its key ends.
use Rattle.std.proofs.Common.{◌≡◌, ◌≢◌, ℕ, zero, suc, ◌+◌, ◌-◌, ◌<◌, ◌≤◌, List, [], ◌∷◌, ◌++◌, length, map, get_or, take, drop, refl, sym, ap, ◌∙◌, subst, arith, None, append-nil, append_assoc, inl, inr}
use Rattle.std.proofs.lemmas.Bool.{cases_eq}
use Rattle.std.specs.Prelude.{Bool, true, false, not, Ok, Result, insert, slice_index_or}
use Rattle.std.specs.Ordering.{is_gt}
use Rattle.std.specs.declared.cmp.Ordering.TheVariants.{Less}
use Rattle.std.specs.Cmp.{IsTotalOrder}
use Rattle.std.specs.List.{flat_map, prefix_len, count_by}
use Rattle.std.proofs.lemmas.List.{map-append, length-map, take-map, drop-map}
use Rattle.std.proofs.lemmas.List.Concat.{flat_map-append}
use Rattle.std.proofs.lemmas.List.Edits.{length-insert}
use Rattle.std.proofs.lemmas.List.Folds.{flat_map-map}
use Rattle.hfs_btree.specs.declared.kind.NodeKind.TheVariants.{Leaf, Index}
use Rattle.hfs_btree.specs.declared.node.Node.{Node}
use Rattle.hfs_btree.specs.declared.fault.NodeFault.{NodeFault}
use Rattle.hfs_btree.specs.declared.key.Key.{Ghosts}
use Rattle.hfs_btree.specs.Pairs.{Order, Pairs, Rises, IsAbove, lookup, pairs_from}
use Rattle.hfs_btree.proofs.PairLemmas.{IsBelow}
use Rattle.hfs_fields.specs.Each.{Each}
use Rattle.hfs_fields.proofs.ElementLemmas.{each-append, each-left, each-right, each-mono, each-both}
use Rattle.hfs_btree.specs.Tree.{Store, Spot, node_in, records_in, records_of, children, pair_of, pairs, spots, first_of, last_of, turn, under, level_below, last_level, kind_at, reads_at}
use Rattle.hfs_btree.specs.Header.{header_in, depth_of, root_level, leaves, own_nodes, free_nodes, tree_turn, tree_nodes, tree_content}
use Rattle.hfs_btree.specs.Sound.{IsOther, IsDistinct, IsRight, IsOrdered, IsSound, HasHeader, HasMap, ArePartsInOrder, AreKeysInOrder, part_of}
use Rattle.hfs_btree.specs.Search.{is_not_above, child_for, leaf_under, leaf_for, IsLowWay}
use Rattle.hfs_btree.proofs.SearchLemmas.{IsLeafFor}
use Rattle.hfs_btree_edits.specs.Edits.{with_pair}
use Rattle.hfs_btree_edits.specs.Stored.{KeepsHead}
use Rattle.hfs_btree_edits.proofs.ApartLemmas.{apart-at, each-take, each-drop}
use Rattle.hfs_btree_insertion.proofs.Contents.{Keyed, keyed-spots, keyed-of-spots, have-pairs, turn-parts-right, content-under}
use Rattle.hfs_btree.proofs.DescentLemmas.{next-split, place-within, leaf-node}
use Rattle.hfs_btree_edits.proofs.LevelPartLemmas.{KeepsRecords, KeepsUnder, same-flat, parts-kept, level-kept, children-kept, numbers-spots, flat-kept}
use Rattle.hfs_btree.proofs.LevelLemmas.{map-split, at-spot}
use Rattle.hfs_btree_insertion.proofs.PairPut.{put-past, put-before, each-put, rises-put, length-put, put-at}
use Rattle.hfs_btree.proofs.PartLemmas.{beside-place, first-above, rest-count, first-fits}
use Rattle.hfs_btree_edits.proofs.DistinctLemmas.{distinct-right}

-- ---- the parts of one node, of which one has a pair more

module _ {K : Type 0} (cmp : Order K) (total : IsTotalOrder cmp) (key : K) (body : List ℕ) (ikey : List ℕ → K) (own : List ℕ → Pairs K) where
  abbrev fits : List ℕ → Bool
  fits e = not (is_gt (cmp (ikey e) key))

  abbrev part : List ℕ → K × Pairs K
  part e = (ikey e, own e)

  tail-put : (e : List ℕ) (es : List (List ℕ)) → prefix_len fits es ≡ 0 → ArePartsInOrder cmp (own e) (map part es) → ArePartsInOrder cmp (with_pair cmp key body (own e)) (map part es)
  tail-put e [] z h = tt
  tail-put e (f ∷ es) z h = (each-put cmp total key body (λ p. cmp p.0 (ikey f) ≡ Less) (own e) (first-above cmp total key ikey own f es z) h.0, h.1, h.2)

  pub parts-put : (q : ℕ) (before : Pairs K) (es : List (List ℕ)) → prefix_len fits es ≡ suc q → ArePartsInOrder cmp before (map part es)
      → ArePartsInOrder cmp before (map part (take q es) ++ (ikey (get_or es q []), with_pair cmp key body (own (get_or es q []))) ∷ map part (drop (suc q) es))
  parts-put zero before [] z h = absurd (omega arith)
  parts-put zero before (e ∷ es) z h =
      let none : prefix_len fits es ≡ 0 = omega (arith, rest-count cmp total key ikey own e es zero z) in
      (h.0, each-put cmp total key body (λ p. is_gt (cmp (ikey e) p.0) ≡ false) (own e) (first-fits cmp total key ikey own e es zero z) h.1, tail-put e es none h.2)
  parts-put (suc q) before [] z h = absurd (omega arith)
  parts-put (suc q) before (e ∷ es) z h =
      let more : prefix_len fits es ≡ suc q = omega (arith, rest-count cmp total key ikey own e es (suc q) z) in
      (h.0, h.1, parts-put q (own e) es more h.2)

-- ---- the nodes on the way

-- a node of the levels is right, and its keys are in order
abbrev pub Fact : {K : Type 0} → Ghosts K → Store → Spot → Type 0
Fact g nodes x = IsRight g nodes x × AreKeysInOrder g nodes x.above x.n

module _ {K : Type 0} (g : Ghosts K) (total : IsTotalOrder g.compare) (old new : Store) (key : K) (body : List ℕ) where
  abbrev put : Pairs K → Pairs K
  put ps = with_pair g.compare key body ps

  pub leaves-keyed : (ns : List ℕ) → Each (AreKeysInOrder g new 0) ns
  leaves-keyed [] = tt
  leaves-keyed (x ∷ ns) = (tt, leaves-keyed ns)

  -- what has become of a node on the way, of those beside it, and of all levels from there on
  pub record IsDone (k x : ℕ) (before behind : List ℕ) : Type 0 where
    pub at : under g new k x ≡ put (under g old k x)
    pub left : Each (KeepsUnder g old new k) before
    pub right : Each (KeepsUnder g old new k) behind
    pub keyed : Each (Keyed g new) (turn g old (suc k) (before ++ x ∷ behind))

  -- above it
  module _ (k x : ℕ) (before behind : List ℕ) (some : 0 < prefix_len (is_not_above g key) (records_in old x)) (fine : Each (Fact g old) (turn g old (suc (suc k)) (before ++ x ∷ behind))) where
    abbrev es : List (List ℕ)
    es = records_in old x

    abbrev q : ℕ
    q = prefix_len (is_not_above g key) es - 1

    abbrev child : ℕ
    child = child_for g key es

    abbrev level : List ℕ
    level = before ++ x ∷ behind

    abbrev left-below : List ℕ
    left-below = flat_map (children g old) before ++ map g.child (take q es)

    abbrev right-below : List ℕ
    right-below = map g.child (drop (suc q) es) ++ flat_map (children g old) behind

    pub level-facts : Each (Fact g old) (spots (suc k) 0 level)
    level-facts = each-left (Fact g old) (spots (suc k) 0 level) (turn g old (suc k) (flat_map (children g old) level)) fine

    pub below-facts : Each (Fact g old) (turn g old (suc k) (flat_map (children g old) level))
    below-facts = each-right (Fact g old) (spots (suc k) 0 level) (turn g old (suc k) (flat_map (children g old) level)) fine

    x-fact : (l : ℕ) × (Fact g old) (record { left = l; n = x; right = first_of behind; above = suc k })
    x-fact = at-spot (Fact g old) (suc k) 0 before x behind level-facts

    entries : 0 < length es
    entries = Rattle.hfs_btree.proofs.LevelLemmas.records-some g old (Fact g old) (λ spot h. h.0) _ x-fact.1.0

    q-within : q < length es
    q-within = place-within g key es entries

    pub cut : flat_map (children g old) level ≡ left-below ++ child ∷ right-below
    cut = next-split g old before x behind q q-within

    below-right : Each (IsRight g old) (turn g old (suc k) (flat_map (children g old) level))
    below-right = each-mono (Fact g old) (IsRight g old) (turn g old (suc k) (flat_map (children g old) level)) (λ y h. h.0) below-facts

    some-pairs : Each (λ e. 0 < length (under g old k (g.child e))) es
    some-pairs = have-pairs g old (suc k) es (turn-parts-right g old (suc k) before x behind below-right)

    abbrev own : List ℕ → Pairs K
    own e = under g old k (g.child e)

    beside : IsAbove g.compare key (flat_map own (take q es)) × IsBelow g.compare key (flat_map own (drop (suc q) es))
    beside = beside-place g.compare total key g.index_key own es x-fact.1.1 some-pairs

    module _ (level-keep : Each (KeepsRecords g old new) level) (done : IsDone k child left-below right-below) where
      front-under : Each (KeepsUnder g old new k) (map g.child (take q es))
      front-under = each-right (KeepsUnder g old new k) (flat_map (children g old) before) (map g.child (take q es)) done.left

      rest-under : Each (KeepsUnder g old new k) (map g.child (drop (suc q) es))
      rest-under = each-left (KeepsUnder g old new k) (map g.child (drop (suc q) es)) (flat_map (children g old) behind) done.right

      x-keeps : records_in new x ≡ es
      x-keeps = (each-right (KeepsRecords g old new) before (x ∷ behind) level-keep).0

      children-split : (nodes : Store) → records_in nodes x ≡ es → children g nodes x ≡ map g.child (take q es) ++ child ∷ map g.child (drop (suc q) es)
      children-split nodes is = ap (map g.child) is ∙ map-split g.child es q [] q-within

      spread : (xs : List (List ℕ)) → flat_map (under g old k) (map g.child xs) ≡ flat_map own xs
      spread xs = flat_map-map (under g old k) g.child xs

      x-under : under g new (suc k) x ≡ put (under g old (suc k) x)
      x-under =
          let A : Pairs K → Type 0 = λ ps. IsAbove g.compare key ps in
          let B : Pairs K → Type 0 = λ ps. IsBelow g.compare key ps in
          let front = flat_map (under g old k) (map g.child (take q es)) in
          let rest = flat_map (under g old k) (map g.child (drop (suc q) es)) in
          ap (flat_map (under g new k)) (children-split new x-keeps)
          ∙ flat_map-append (under g new k) (map g.child (take q es)) (child ∷ map g.child (drop (suc q) es))
          ∙ ap (λ (ps : Pairs K). ps ++ (under g new k child ++ flat_map (under g new k) (map g.child (drop (suc q) es)))) (same-flat g old new k (map g.child (take q es)) front-under)
          ∙ ap (λ (ps : Pairs K). front ++ (under g new k child ++ ps)) (same-flat g old new k (map g.child (drop (suc q) es)) rest-under)
          ∙ ap (λ (ps : Pairs K). front ++ (ps ++ rest)) done.at
          ∙ ap (λ (ps : Pairs K). front ++ ps) (sym (put-before g.compare total key body (under g old k child) rest (subst B (sym (spread (drop (suc q) es))) beside.1)))
          ∙ sym (put-past g.compare total key body front (under g old k child ++ rest) (subst A (sym (spread (take q es))) beside.0))
          ∙ ap put (sym (ap (flat_map (under g old k)) (children-split old refl) ∙ flat_map-append (under g old k) (map g.child (take q es)) (child ∷ map g.child (drop (suc q) es))))

      new-parts : map (part_of g (under g new k)) (records_in new x)
          ≡ map (part_of g (under g old k)) (take q es) ++ (g.index_key (get_or es q []), put (under g old k child)) ∷ map (part_of g (under g old k)) (drop (suc q) es)
      new-parts =
          ap (map (part_of g (under g new k))) x-keeps
          ∙ map-split (part_of g (under g new k)) es q [] q-within
          ∙ ap (λ (ps : List (K × Pairs K)). ps ++ part_of g (under g new k) (get_or es q []) ∷ map (part_of g (under g new k)) (drop (suc q) es)) (parts-kept g old new k (take q es) front-under)
          ∙ ap (λ (ps : List (K × Pairs K)). map (part_of g (under g old k)) (take q es) ++ part_of g (under g new k) (get_or es q []) ∷ ps) (parts-kept g old new k (drop (suc q) es) rest-under)
          ∙ ap (λ (ps : Pairs K). map (part_of g (under g old k)) (take q es) ++ (g.index_key (get_or es q []), ps) ∷ map (part_of g (under g old k)) (drop (suc q) es)) done.at

      x-keyed : AreKeysInOrder g new (suc k) x
      x-keyed =
          let P : List (K × Pairs K) → Type 0 = λ ps. ArePartsInOrder g.compare [] ps in
          subst P (sym new-parts) (parts-put g.compare total key body g.index_key own q [] es (omega arith) x-fact.1.1)

      before-parts : Each (λ y. Each (KeepsUnder g old new k) (children g old y)) before
      before-parts = children-kept g old new k before (each-left (KeepsUnder g old new k) (flat_map (children g old) before) (map g.child (take q es)) done.left)

      behind-parts : Each (λ y. Each (KeepsUnder g old new k) (children g old y)) behind
      behind-parts = children-kept g old new k behind (each-right (KeepsUnder g old new k) (map g.child (drop (suc q) es)) (flat_map (children g old) behind) done.right)

      level-old : Each (AreKeysInOrder g old (suc k)) level
      level-old = keyed-of-spots g old (suc k) 0 level (each-mono (Fact g old) (Keyed g old) (spots (suc k) 0 level) (λ y h. h.1) level-facts)

      beside-keyed : (xs : List ℕ) → Each (KeepsRecords g old new) xs → Each (λ y. Each (KeepsUnder g old new k) (children g old y)) xs → Each (AreKeysInOrder g old (suc k)) xs → Each (AreKeysInOrder g new (suc k)) xs
      beside-keyed [] keep parts keys = tt
      beside-keyed (y ∷ xs) keep parts keys = (Rattle.hfs_btree_edits.proofs.LevelPartLemmas.keys-kept g old new k y keep.0 parts.0 keys.0, beside-keyed xs keep.1 parts.1 keys.1)

      pub index-done : IsDone (suc k) x before behind
      index-done =
          let before-keep = each-left (KeepsRecords g old new) before (x ∷ behind) level-keep in
          let behind-keep = (each-right (KeepsRecords g old new) before (x ∷ behind) level-keep).1 in
          let P : List ℕ → Type 0 = λ ns. Each (Keyed g new) (turn g old (suc k) ns) in
          record {
            at = x-under;
            left = level-kept g old new k before before-keep before-parts;
            right = level-kept g old new k behind behind-keep behind-parts;
            keyed = each-append (Keyed g new) (spots (suc k) 0 level) (turn g old (suc k) (flat_map (children g old) level))
                (keyed-spots g new (suc k) 0 level (each-append (AreKeysInOrder g new (suc k)) before (x ∷ behind)
                (beside-keyed before before-keep before-parts (each-left (AreKeysInOrder g old (suc k)) before (x ∷ behind) level-old))
                (x-keyed, beside-keyed behind behind-keep behind-parts (each-right (AreKeysInOrder g old (suc k)) before (x ∷ behind) level-old).1)))
                (subst P (sym cut) done.keyed);
          }

-- the leaf is one of them

module _ {K : Type 0} (g : Ghosts K) (total : IsTotalOrder g.compare) (old new : Store) (key : K) (body : List ℕ) (n : ℕ)
    (kind : (v : Node) → node_in old n ≡ Ok v → v.kind ≡ Leaf) (same : (x : Spot) → IsRight g old x → x.n ≢ n → records_in new x.n ≡ records_in old x.n)
    (here : pairs g new n ≡ with_pair g.compare key body (pairs g old n)) where
  leaf-or-index : Leaf ≡ Index → ⊥
  leaf-or-index e = cc

  -- index nodes are others than the leaf
  index-other : (x : Spot) (k : ℕ) → x.above ≡ suc k → IsRight g old x → x.n ≢ n
  index-other x k up is e =
      let V : ℕ → Type 0 = λ y. node_in old y ≡ Ok is.value in
      let K' : ℕ → Type 0 = λ a. is.value.kind ≡ Rattle.hfs_btree.specs.Tree.kind_at a in
      leaf-or-index (sym (kind is.value (subst V e is.decodes)) ∙ subst K' up is.kind)

  index-keep : (k left : ℕ) (xs : List ℕ) → Each (Fact g old) (spots (suc k) left xs) → Each (KeepsRecords g old new) xs
  index-keep k left [] h = tt
  index-keep k left (x ∷ xs) h = (same _ h.0.0 (index-other _ k refl h.0.0), index-keep k x xs h.1)

  leaf-keep : (left : ℕ) (before after : List ℕ) (ns : List ℕ) → Each (Fact g old) (spots 0 left ns) → Each (IsOther n) ns → Each (KeepsRecords g old new) ns
  leaf-keep left before after [] h other = tt
  leaf-keep left before after (x ∷ ns) h other = (same _ h.0.0 other.0, leaf-keep x before after ns h.1 other.1)

  leaves-keep : (ns : List ℕ) → Each (KeepsRecords g old new) ns → Each (KeepsUnder g old new 0) ns
  leaves-keep [] h = tt
  leaves-keep (x ∷ ns) h = (ap (map (pair_of g)) h.0, leaves-keep ns h.1)

  fact-parts : (k left : ℕ) (xs ys : List ℕ) → Each (Fact g old) (spots k left (xs ++ ys)) → (l : ℕ) × (Each (Fact g old) (spots k l ys))
  fact-parts k left [] ys h = (left, h)
  fact-parts k left (x ∷ xs) ys h = fact-parts k x xs ys h.1

  keep-front : (left : ℕ) (xs ys : List ℕ) → Each (Fact g old) (spots 0 left (xs ++ ys)) → Each (IsOther n) xs → Each (KeepsRecords g old new) xs
  keep-front left [] ys h other = tt
  keep-front left (x ∷ xs) ys h other = (same _ h.0.0 other.0, keep-front x xs ys h.1 other.1)

  -- at the leaf
  leaf-done : (x : ℕ) (before behind : List ℕ) → x ≡ n → Each (Fact g old) (turn g old 1 (before ++ x ∷ behind)) → IsDistinct (before ++ x ∷ behind) → IsDone g total old new key body 0 x before behind
  leaf-done x before behind is fine distinct =
      let P : ℕ → Type 0 = λ y. pairs g new y ≡ with_pair g.compare key body (pairs g old y) in
      let O : ℕ → Type 0 = λ y. Each (IsOther y) before × Each (IsOther y) behind in
      let others = subst O is (apart-at before behind x distinct) in
      let level = each-left (Fact g old) (spots 0 0 (before ++ x ∷ behind)) [] fine in
      let rest = fact-parts 0 0 before (x ∷ behind) level in
      record {
        at = subst P (sym is) here;
        left = leaves-keep before (keep-front 0 before (x ∷ behind) level others.0);
        right = leaves-keep behind (leaf-keep x [] [] behind rest.1.1 others.1);
        keyed = each-append (Keyed g new) (spots 0 0 (before ++ x ∷ behind)) [] (keyed-spots g new 0 0 (before ++ x ∷ behind) (leaves-keyed g total old new key body (before ++ x ∷ behind))) tt;
      }

  -- the whole way
  pub done : (k x : ℕ) (before behind : List ℕ) → leaf_under g old key k x ≡ n → IsLowWay g old key k x → Each (Fact g old) (turn g old (suc k) (before ++ x ∷ behind))
      → IsDistinct (level_below g old k (before ++ x ∷ behind)) → IsDone g total old new key body k x before behind
  done zero x before behind ends low fine distinct = leaf-done x before behind ends fine distinct
  done (suc k) x before behind ends low fine distinct =
      let split = cut g total old new key body k x before behind low.0 fine in
      let F : List ℕ → Type 0 = λ ns. Each (Fact g old) (turn g old (suc k) ns) in
      let D : List ℕ → Type 0 = λ ns. IsDistinct (level_below g old k ns) in
      index-done g total old new key body k x before behind low.0 fine (index-keep k 0 (before ++ x ∷ behind) (level-facts g total old new key body k x before behind low.0 fine))
      (done k (child_for g key (records_in old x)) _ _ ends low.1 (subst F split (below-facts g total old new key body k x before behind low.0 fine)) (subst D split distinct))

-- ---- the whole tree

-- The leaf n where the search for the key ends got the pair's record at its place. The root stands d levels above the leaves.
pub record IsPutIn {K : Type 0} (g : Ghosts K) (key : K) (body : List ℕ) (old new : Store) (d n place : ℕ) : Type 0 where
  pub deep : depth_of old ≡ suc d
  pub at : leaf_for g old key ≡ n
  pub low : IsLowWay g old key d (header_in old).root
  pub entry : List ℕ
  pub leaf : g.is_leaf entry ≡ true
  pub pair : pair_of g entry ≡ (key, body)
  pub node : Node
  pub was : node_in old n ≡ Ok node
  pub is : node_in new n ≡ Ok (record node { records = insert node.records place entry })
  pub within : place ≤ length node.records
  pub from : drop place (pairs g old n) ≡ pairs_from g.compare key (pairs g old n)
  pub rest : (x : ℕ) → x ≢ 0 → x ≢ n → node_in new x ≡ node_in old x
  pub root : (header_in new).root ≡ (header_in old).root
  pub depth : depth_of new ≡ depth_of old
  pub first_leaf : (header_in new).first_leaf ≡ (header_in old).first_leaf
  pub last_leaf : (header_in new).last_leaf ≡ (header_in old).last_leaf
  pub records : (header_in new).records ≡ (header_in old).records + 1
  pub free : (header_in new).free_nodes ≡ (header_in old).free_nodes
  pub head : KeepsHead old new

-- the last level stands at the end of the turn
pub last-of-turn : {K : Type 0} (g : Ghosts K) (nodes : Store) (d : ℕ) (ns : List ℕ) → (xs : List ℕ) × (map (λ (x : Spot). x.n) (turn g nodes (suc d) ns) ≡ xs ++ level_below g nodes d ns)
last-of-turn g nodes zero ns = ([], map-append (λ (x : Spot). x.n) (spots 0 0 ns) [] ∙ append-nil (map (λ (x : Spot). x.n) (spots 0 0 ns)) ∙ numbers-spots 0 0 ns)
last-of-turn g nodes (suc d) ns =
    let rest = last-of-turn g nodes d (flat_map (children g nodes) ns) in (
      map (λ (x : Spot). x.n) (spots (suc d) 0 ns) ++ rest.0,
      map-append (λ (x : Spot). x.n) (spots (suc d) 0 ns) (turn g nodes (suc d) (flat_map (children g nodes) ns))
          ∙ ap (λ (xs : List ℕ). map (λ (x : Spot). x.n) (spots (suc d) 0 ns) ++ xs) rest.1
          ∙ sym (append_assoc (map (λ (x : Spot). x.n) (spots (suc d) 0 ns)) rest.0 (level_below g nodes d (flat_map (children g nodes) ns))),
    )

pub index-records : {K : Type 0} (g : Ghosts K) (old new : Store) (k left : ℕ) (ns : List ℕ) → Each (λ (x : Spot). (j : ℕ) → x.above ≡ suc j → records_in new x.n ≡ records_in old x.n) (spots (suc k) left ns)
    → Each (KeepsRecords g old new) ns
index-records g old new k left [] h = tt
index-records g old new k left (x ∷ ns) h = (h.0 k refl, index-records g old new k x ns h.1)

-- the turn is the same where each node but those of the last level has kept its records
pub turn-same : {K : Type 0} (g : Ghosts K) (old new : Store) (d : ℕ) (ns : List ℕ) → Each (λ (x : Spot). (k : ℕ) → x.above ≡ suc k → records_in new x.n ≡ records_in old x.n) (turn g old d ns)
    → (turn g new d ns ≡ turn g old d ns) × (last_level g new d ns ≡ last_level g old d ns)
turn-same g old new zero ns h = (refl, refl)
turn-same g old new (suc zero) ns h = (refl, refl)
turn-same g old new (suc (suc k)) ns h =
    let Q : Spot → Type 0 = λ x. (j : ℕ) → x.above ≡ suc j → records_in new x.n ≡ records_in old x.n in
    let next = turn g old (suc k) (flat_map (children g old) ns) in
    let below = flat-kept g old new ns (index-records g old new k 0 ns (each-left Q (spots (suc k) 0 ns) next h)) in
    let rest = turn-same g old new (suc k) (flat_map (children g old) ns) (each-right Q (spots (suc k) 0 ns) next h) in (
      ap (λ (ms : List ℕ). spots (suc k) 0 ns ++ turn g new (suc k) ms) below ∙ ap (λ (ss : List Spot). spots (suc k) 0 ns ++ ss) rest.0,
      ap (level_below g new k) below ∙ rest.1,
    )

module _ {K : Type 0} (g : Ghosts K) (total : IsTotalOrder g.compare) (key : K) (body : List ℕ) (old new : Store) (d n place : ℕ) (s : IsPutIn g key body old new d n place) (sound : IsSound g old)
    (found : IsLeafFor g old key n) where
  abbrev put' : Pairs K → Pairs K
  put' ps = with_pair g.compare key body ps

  n-spot : (l : ℕ) × IsRight g old (record { left = l; n = n; right = first_of found.behind; above = 0 })
  n-spot = leaf-node g old sound.structure found.before n found.behind found.split

  abbrev ok_of : Node → Result Node NodeFault
  ok_of v = Ok v

  same-value : (v w : Node) → ok_of v ≡ ok_of w → v ≡ w
  same-value v w e = cc

  pub kind-is : (v : Node) → node_in old n ≡ Ok v → v.kind ≡ Leaf
  kind-is v e = ap (λ (w : Node). w.kind) (same-value v n-spot.1.value (sym e ∙ n-spot.1.decodes)) ∙ n-spot.1.kind

  nonzero-spot : (x : Spot) → IsRight g old x → x.n ≢ 0
  nonzero-spot x is e = let one = is.within.0 in omega arith

  pub keeps : (x : Spot) → IsRight g old x → x.n ≢ n → records_in new x.n ≡ records_in old x.n
  keeps x is other = ap records_of (s.rest x.n (nonzero-spot x is) other)

  old-records : records_in old n ≡ s.node.records
  old-records = ap records_of s.was

  leaf-put : pairs g new n ≡ put' (pairs g old n)
  leaf-put =
      let count = ap (λ (xs : List (List ℕ)). length (map (pair_of g) xs)) old-records in
      let within = s.within in
      ap (λ (r : Result Node NodeFault). map (pair_of g) (records_of r)) s.is
      ∙ map-append (pair_of g) (take place s.node.records) (s.entry ∷ drop place s.node.records)
      ∙ ap (λ (p : K × List ℕ). map (pair_of g) (take place s.node.records) ++ p ∷ map (pair_of g) (drop place s.node.records)) s.pair
      ∙ ap (λ (xs : List (List ℕ)). map (pair_of g) (take place xs) ++ (key, body) ∷ map (pair_of g) (drop place xs)) (sym old-records)
      ∙ ap (λ (ps : Pairs K). ps ++ (key, body) ∷ map (pair_of g) (drop place (records_in old n))) (sym (take-map (pair_of g) place (records_in old n)))
      ∙ ap (λ (ps : Pairs K). take place (pairs g old n) ++ (key, body) ∷ ps) (sym (drop-map (pair_of g) place (records_in old n)))
      ∙ sym (put-at g.compare total key body (pairs g old n) place (omega (arith, length-map s.node.records (pair_of g))) s.from)

  abbrev root : ℕ
  root = (header_in old).root

  -- the levels

  pub index-keeps : Each (λ (x : Spot). (k : ℕ) → x.above ≡ suc k → records_in new x.n ≡ records_in old x.n) (tree_turn g old)
  index-keeps = each-mono (IsRight g old) _ (tree_turn g old) (λ x is k up. keeps x is (index-other g total old new key body n kind-is keeps leaf-put x k up is)) sound.structure.levels.each

  turns : (tree_turn g new ≡ tree_turn g old) × (leaves g new ≡ leaves g old)
  turns =
      let both = turn-same g old new (depth_of old) (root_level old) index-keeps in (
        ap (λ (j : ℕ). turn g new j (root_level new)) s.depth ∙ ap (λ (r : ℕ). turn g new (depth_of old) (r ∷ [])) s.root ∙ both.0,
        ap (λ (j : ℕ). last_level g new j (root_level new)) s.depth ∙ ap (λ (r : ℕ). last_level g new (depth_of old) (r ∷ [])) s.root ∙ both.1,
      )

  pub put-turn : tree_turn g new ≡ tree_turn g old
  put-turn = turns.0

  pub put-nodes : tree_nodes g new ≡ tree_nodes g old
  put-nodes = ap (map (λ (x : Spot). x.n)) put-turn

  -- the pairs

  facts : Each (Fact g old) (turn g old (suc d) (root_level old))
  facts =
      let F : Spot → Type 0 = Fact g old in
      let P : ℕ → Type 0 = λ j. Each F (turn g old j (root_level old)) in
      subst P s.deep (each-both (IsRight g old) (λ x. AreKeysInOrder g old x.above x.n) (tree_turn g old) sound.structure.levels.each sound.ordered.keys)

  leaves-distinct : IsDistinct (level_below g old d (root_level old))
  leaves-distinct =
      let D : List ℕ → Type 0 = λ xs. IsDistinct xs in
      let P : ℕ → Type 0 = λ j. IsDistinct (map (λ (x : Spot). x.n) (turn g old j (root_level old))) in
      let last = last-of-turn g old d (root_level old) in
      distinct-right last.0 (level_below g old d (root_level old)) (subst D last.1 (subst P s.deep (distinct-right (own_nodes old) (tree_nodes g old) sound.structure.levels.different)))

  one-less : depth_of old - 1 ≡ d
  one-less = let deep = s.deep in omega arith

  way : IsDone g total old new key body d root [] []
  way =
      let at : leaf_under g old key d root ≡ n = ap (λ (j : ℕ). leaf_under g old key j root) (sym one-less) ∙ s.at in
      done g total old new key body n kind-is keeps leaf-put d root [] [] at s.low facts leaves-distinct

  pub put-content : tree_content g new ≡ put' (tree_content g old)
  put-content =
      content-under g new d (s.depth ∙ s.deep)
      ∙ ap (λ (r : ℕ). flat_map (under g new d) (r ∷ [])) s.root
      ∙ append-nil (under g new d root)
      ∙ way.at
      ∙ ap put' (sym (content-under g old d s.deep ∙ append-nil (under g old d root)))

  pub put-ordered : lookup g.compare key (tree_content g old) ≡ None → IsOrdered g new
  put-ordered absent =
      let P : Pairs K → Type 0 = λ ps. Rises g.compare ps in
      let Q : List Spot → Type 0 = λ ss. Each (Keyed g new) ss in
      let T : ℕ → Type 0 = λ j. Each (Keyed g new) (turn g old j (root_level old)) in
      record {
        rises = subst P (sym put-content) (rises-put g.compare total key body (tree_content g old) sound.ordered.rises absent);
        keys = subst Q (sym put-turn) (subst T (sym s.deep) way.keyed);
      }

  -- the nodes

  leaf-or-index' : Leaf ≡ Index → ⊥
  leaf-or-index' e = cc

  leaf-entry : (above : ℕ) → s.node.kind ≡ kind_at above → reads_at g above s.entry ≡ true
  leaf-entry zero e = s.leaf
  leaf-entry (suc k) e = absurd (leaf-or-index' (sym (kind-is s.node s.was) ∙ e))

  put-free : free_nodes new ≡ free_nodes old
  unfolding free_nodes
  put-free = ap (count_by not) s.head.marks

  put-node : (x : Spot) → IsRight g old x → IsRight g new x
  put-node x is =
      let M : List Bool → Type 0 = λ ms. slice_index_or ms x.n false ≡ true in
      let C : ℕ → Type 0 = λ count. x.n < count in
      elim (cases_eq x.n n) [
        | inr other ↦ record {
          within = (is.within.0, subst C (sym s.head.count) is.within.1);
          value = is.value;
          decodes = s.rest x.n (nonzero-spot x is) other ∙ is.decodes;
          kind = is.kind;
          height = is.height;
          some = is.some;
          left = is.left;
          right = is.right;
          whole = is.whole;
          marked = subst M (sym s.head.marks) is.marked;
        }
        | inl at ↦
            (let V : ℕ → Type 0 = λ y. node_in old y ≡ Ok is.value in
            let v : is.value ≡ s.node = same-value is.value s.node (sym (subst V at is.decodes) ∙ s.was) in
            let N : ℕ → Type 0 = λ y. node_in new y ≡ Ok (record s.node { records = insert s.node.records place s.entry }) in
            let R : Node → Type 0 = λ w. Each (λ e. reads_at g x.above e ≡ true) w.records in
            let whole = subst R v is.whole in
            let leaf : reads_at g x.above s.entry ≡ true = leaf-entry x.above (ap (λ (w : Node). w.kind) (sym v) ∙ is.kind) in
            record {
              within = (is.within.0, subst C (sym s.head.count) is.within.1);
              value = record s.node { records = insert s.node.records place s.entry };
              decodes = subst N (sym at) s.is;
              kind = ap (λ (w : Node). w.kind) (sym v) ∙ is.kind;
              height = ap (λ (w : Node). w.height) (sym v) ∙ is.height;
              some = let len = length-insert s.node.records place s.entry s.within in omega arith;
              left = ap (λ (w : Node). w.backward) (sym v) ∙ is.left;
              right = ap (λ (w : Node). w.forward) (sym v) ∙ is.right;
              whole = each-append (λ e. reads_at g x.above e ≡ true) (take place s.node.records) (s.entry ∷ drop place s.node.records)
                  (each-take (λ e. reads_at g x.above e ≡ true) place s.node.records whole) (leaf, each-drop (λ e. reads_at g x.above e ≡ true) place s.node.records whole);
              marked = subst M (sym s.head.marks) is.marked;
            })
      ]

  pub put-sound : lookup g.compare key (tree_content g old) ≡ None → HasHeader g new → HasMap new → IsSound g new
  put-sound absent header map' =
      let P : List Spot → Type 0 = λ ss. Each (IsRight g new) ss in
      let D : List ℕ → Type 0 = λ xs. IsDistinct xs in
      let counts = sound.counts.records in
      record {
        structure = record {
          header = header;
          map = map';
          levels = record {
            each = subst P (sym put-turn) (each-mono (IsRight g old) (IsRight g new) (tree_turn g old) put-node sound.structure.levels.each);
            different = subst D (sym (ap (λ (xs : List ℕ). (0 ∷ xs) ++ tree_nodes g new) s.head.map ∙ ap (λ (xs : List ℕ). own_nodes old ++ xs) put-nodes)) sound.structure.levels.different;
          };
          ends = record {
            first = s.first_leaf ∙ sound.structure.ends.first ∙ ap first_of (sym turns.1);
            last = s.last_leaf ∙ sound.structure.ends.last ∙ ap last_of (sym turns.1);
            empty = λ none. s.root ∙ sound.structure.ends.empty (sym s.depth ∙ none);
          };
        };
        counts = record {
          records = s.records ∙ ap (λ (x : ℕ). x + 1) counts ∙ sym (ap (λ (ps : Pairs K). length ps) put-content ∙ length-put g.compare total key body (tree_content g old));
          free = s.free ∙ sound.counts.free ∙ sym put-free;
        };
        ordered = put-ordered absent;
      }
