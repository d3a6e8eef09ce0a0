-- A new root that was put above the old one.
use Rattle.hfs_btree_edits.specs.LevelParts.{entry_key}
use Rattle.std.proofs.Common.{◌≡◌, ◌≢◌, ℕ, suc, ◌<◌, List, [], ◌∷◌, ◌++◌, length, map, get_or, refl, sym, ap, ◌∙◌, subst, arith, append-nil}
use Rattle.std.specs.Prelude.{Bool, true, false, not, slice_index_or}
use Rattle.std.specs.Cmp.{IsTotalOrder}
use Rattle.std.specs.List.{flat_map, count_by}
use Rattle.hfs_btree.specs.declared.key.Key.{Ghosts}
use Rattle.hfs_btree.specs.Pairs.{Pairs, Rises, IsAtMost}
use Rattle.hfs_fields.specs.Each.{Each}
use Rattle.hfs_fields.proofs.ElementLemmas.{each-right, each-mono}
use Rattle.hfs_btree.specs.Tree.{Store, Spot, node_in, records_in, records_of, children, spots, first_of, last_of, turn, under, level_below, last_level}
use Rattle.hfs_btree.specs.Header.{header_in, root_level, leaves, own_nodes, free_nodes, tree_turn, tree_nodes, tree_content}
use Rattle.hfs_btree.specs.Sound.{IsOther, IsDistinct, IsRight, IsOrdered, IsSound, IsStray, IsWithin, HasLevels, HasEnds, HasCounts, HasHeader, HasMap, AreKeysInOrder}
use Rattle.hfs_btree_insertion.specs.Raise.{IsRaised}
use Rattle.hfs_btree_edits.proofs.ApartLemmas.{distinct-put, nonzero, marked-within}
use Rattle.hfs_btree_insertion.proofs.Contents.{content, under-content, content-under, Keyed, AreRecordsInOrder, records-keyed, HavePairs, have-pairs, middle-most}
use Rattle.hfs_btree_edits.proofs.LevelPartLemmas.{numbers, at-spots, of-spots, turn-kept, turn-keyed, under-kept, KeepsRecords, KeepsAt, KeepsUnder}
use Rattle.hfs_btree.proofs.LevelLemmas.{records-some}

module _ {K : Type 0} (g : Ghosts K) (total : IsTotalOrder g.compare) (old new : Store) (d m : ℕ) (s : IsRaised g old new d m) (sound : IsSound g old) where
  abbrev root : ℕ
  root = (header_in old).root

  pub turn-old : tree_turn g old ≡ turn g old (suc d) (root ∷ [])
  turn-old = ap (λ (j : ℕ). turn g old j (root_level old)) s.deep

  rights : Each (IsRight g old) (turn g old (suc d) (root ∷ []))
  rights = let P : List Spot → Type 0 = λ ss. Each (IsRight g old) ss in subst P turn-old sound.structure.levels.each

  -- ---- which nodes are the same

  m-others : Each (IsOther m) (own_nodes old ++ tree_nodes g old)
  m-others = s.stray.other

  m-tree : Each (IsOther m) (numbers (turn g old (suc d) (root ∷ [])))
  m-tree = let P : List Spot → Type 0 = λ ss. Each (IsOther m) (numbers ss) in subst P turn-old (each-right (IsOther m) (own_nodes old) (tree_nodes g old) m-others)

  kept : (ss : List Spot) → Each (IsRight g old) ss → Each (IsOther m) (numbers ss) → Each (λ (x : Spot). node_in new x.n ≡ node_in old x.n) ss
  kept [] h other = tt
  kept (x ∷ ss) h other =
      let one = h.0.within.0 in
      let some : x.n ≢ 0 = λ e. (omega arith) in
      (s.rest x.n some other.0, kept ss h.1 other.1)

  all-kept : Each (λ (x : Spot). node_in new x.n ≡ node_in old x.n) (turn g old (suc d) (root ∷ []))
  all-kept = kept (turn g old (suc d) (root ∷ [])) rights m-tree

  pub all-keep : Each (KeepsAt g old new) (turn g old (suc d) (root ∷ []))
  all-keep = each-mono (λ (x : Spot). node_in new x.n ≡ node_in old x.n) (KeepsAt g old new) (turn g old (suc d) (root ∷ [])) (λ x e. ap records_of e) all-kept

  -- ---- levels

  pub records-root : records_in new m ≡ s.entry ∷ []
  records-root = ap records_of s.is ∙ s.one

  pub below : flat_map (children g new) (m ∷ []) ≡ root ∷ []
  below = append-nil (children g new m) ∙ ap (map g.child) records-root ∙ ap (λ (x : ℕ). x ∷ []) s.names

  pub raise-turn : tree_turn g new ≡ spots (suc d) 0 (m ∷ []) ++ tree_turn g old
  raise-turn =
      ap (λ (j : ℕ). turn g new j (root_level new)) s.depth
      ∙ ap (λ (r : ℕ). turn g new (suc (suc d)) (r ∷ [])) s.root
      ∙ ap (λ (ns : List ℕ). spots (suc d) 0 (m ∷ []) ++ turn g new (suc d) ns) below
      ∙ ap (λ (ss : List Spot). spots (suc d) 0 (m ∷ []) ++ ss) (turn-kept g old new (suc d) (root ∷ []) all-keep ∙ sym turn-old)

  pub raise-nodes : tree_nodes g new ≡ m ∷ tree_nodes g old
  raise-nodes = ap numbers raise-turn

  same-below : (j : ℕ) (ns : List ℕ) → Each (KeepsAt g old new) (turn g old (suc j) ns) → level_below g new j ns ≡ level_below g old j ns
  same-below j ns h = Rattle.hfs_btree_edits.proofs.LevelPartLemmas.level-below-kept g old new j ns h

  raise-leaves : leaves g new ≡ leaves g old
  raise-leaves =
      ap (λ (j : ℕ). last_level g new j (root_level new)) s.depth
      ∙ ap (λ (r : ℕ). last_level g new (suc (suc d)) (r ∷ [])) s.root
      ∙ ap (level_below g new d) below
      ∙ same-below d (root ∷ []) all-keep
      ∙ sym (ap (λ (j : ℕ). last_level g old j (root_level old)) s.deep)

  -- ---- pairs

  root-under : KeepsUnder g old new d root
  root-under = (under-kept g old new d (root ∷ []) all-keep).0

  pub raise-content : tree_content g new ≡ tree_content g old
  raise-content =
      content-under g new (suc d) s.depth
      ∙ ap (λ (r : ℕ). flat_map (under g new (suc d)) (r ∷ [])) s.root
      ∙ append-nil (flat_map (under g new d) (children g new m))
      ∙ ap (flat_map (under g new d)) (sym (append-nil (children g new m)) ∙ below)
      ∙ ap (λ (ps : Pairs K). ps ++ []) root-under
      ∙ sym (content-under g old d s.deep)

  keyed-old : Each (Keyed g old) (turn g old (suc d) (root ∷ []))
  keyed-old = let P : List Spot → Type 0 = λ ss. Each (Keyed g old) ss in subst P turn-old sound.ordered.keys

  first-keyed : (k : ℕ) (ns : List ℕ) (n : ℕ) → Each (Keyed g old) (turn g old (suc k) (n ∷ ns)) → AreKeysInOrder g old k n
  first-keyed k ns n h = h.0

  root-keyed : AreRecordsInOrder g old d (records_in old root)
  root-keyed = records-keyed g old d root (records_in old root) refl (first-keyed d [] root keyed-old)

  root-rises : Rises g.compare (content g old d (records_in old root))
  root-rises =
      let P : Pairs K → Type 0 = λ ps. Rises g.compare ps in
      subst P (content-under g old d s.deep ∙ append-nil (under g old d root) ∙ under-content g old d root) sound.ordered.rises

  records-all : Each (λ (x : Spot). 0 < length (records_in old x.n)) (turn g old (suc d) (root ∷ []))
  records-all = each-mono (IsRight g old) _ (turn g old (suc d) (root ∷ [])) (λ x h. records-some g old (IsRight g old) (λ spot y. y) x h) rights

  rest-of : (k n : ℕ) (P : Spot → Type 0) → Each P (turn g old (suc k) (n ∷ [])) → P (record { left = 0; n = n; right = 0; above = k }) × Each P (turn g old k (flat_map (children g old) (n ∷ [])))
  rest-of k n P h = (h.0, h.1)

  root-some : HavePairs g old d (records_in old root)
  root-some =
      let Q : Spot → Type 0 = λ x. 0 < length (records_in old x.n) in
      let P : List ℕ → Type 0 = λ ns. Each Q (turn g old d ns) in
      have-pairs g old d (records_in old root) (subst P (append-nil (children g old root)) (rest-of d root Q records-all).1)

  root-first : 0 < length (records_in old root)
  root-first = (rest-of d root (λ (x : Spot). 0 < length (records_in old x.n)) records-all).0

  least : IsAtMost g.compare (g.index_key s.entry) (under g old d root)
  least =
      let P : K → Type 0 = λ x. IsAtMost g.compare x (under g old d root) in
      let Q : Pairs K → Type 0 = λ ps. IsAtMost g.compare (entry_key g d (get_or (records_in old root) 0 [])) ps in
      subst P (sym s.keyed) (subst Q (sym (under-content g old d root)) (middle-most g old total d (records_in old root) 0 root-first root-rises root-keyed root-some))

  new-root-keyed : AreKeysInOrder g new (suc d) m
  new-root-keyed =
      let P : List (List ℕ) → Type 0 = λ xs. Rattle.hfs_btree.specs.Sound.ArePartsInOrder g.compare [] (map (Rattle.hfs_btree.specs.Sound.part_of g (under g new d)) xs) in
      let Q : Pairs K → Type 0 = λ ps. IsAtMost g.compare (g.index_key s.entry) ps in
      subst P (sym records-root) (tt, subst Q (sym (ap (under g new d) s.names ∙ root-under)) least, tt)

  pub raise-ordered : IsOrdered g new
  raise-ordered =
      let P : Pairs K → Type 0 = λ ps. Rises g.compare ps in
      let Q : List Spot → Type 0 = λ ss. Each (Keyed g new) ss in
      record {
        rises = subst P (sym raise-content) sound.ordered.rises;
        keys = subst Q (sym raise-turn) (new-root-keyed, subst Q (sym turn-old) (turn-keyed g old new (suc d) (root ∷ []) all-keep keyed-old));
      }

  -- ---- nodes

  m-within : IsWithin old m
  m-within =
      let zero-other : IsOther m 0 = m-others.0 in
      (nonzero m zero-other, marked-within old m s.stray.marked)

  root-right : IsRight g new (record { left = 0; n = m; right = 0; above = suc d })
  root-right =
      let M : List Bool → Type 0 = λ ms. slice_index_or ms m false ≡ true in
      let C : ℕ → Type 0 = λ count. m < count in
      let R : List (List ℕ) → Type 0 = λ xs. Each (λ e. g.is_index e ≡ true) xs in
      record {
        within = (m-within.0, subst C (sym s.head.count) m-within.1);
        value = s.node;
        decodes = s.is;
        kind = s.kind;
        height = s.height;
        some = let len = ap (λ (xs : List (List ℕ)). length xs) s.one in omega arith;
        left = s.backward;
        right = s.forward;
        whole = subst R (sym s.one) (s.index, tt);
        marked = subst M (sym s.head.marks) s.stray.marked;
      }

  right-kept : (x : Spot) → node_in new x.n ≡ node_in old x.n → IsRight g old x → IsRight g new x
  right-kept x same is =
      let M : List Bool → Type 0 = λ ms. slice_index_or ms x.n false ≡ true in
      let C : ℕ → Type 0 = λ count. x.n < count in
      record {
        within = (is.within.0, subst C (sym s.head.count) is.within.1);
        value = is.value;
        decodes = same ∙ is.decodes;
        kind = is.kind;
        height = is.height;
        some = is.some;
        left = is.left;
        right = is.right;
        whole = is.whole;
        marked = subst M (sym s.head.marks) is.marked;
      }

  kept-right : (ss : List Spot) → Each (λ (x : Spot). node_in new x.n ≡ node_in old x.n) ss → Each (IsRight g old) ss → Each (IsRight g new) ss
  kept-right [] same h = tt
  kept-right (x ∷ ss) same h = (right-kept x same.0 h.0, kept-right ss same.1 h.1)

  raise-free : free_nodes new ≡ free_nodes old
  unfolding free_nodes
  raise-free = ap (count_by not) s.head.marks

  pub raise-sound : HasHeader g new → HasMap new → IsSound g new
  raise-sound header map' =
      let P : List Spot → Type 0 = λ ss. Each (IsRight g new) ss in
      let D : List ℕ → Type 0 = λ xs. IsDistinct xs in
      record {
        structure = record {
          header = header;
          map = map';
          levels = record {
            each = subst P (sym raise-turn) (root-right, subst P (sym turn-old) (kept-right (turn g old (suc d) (root ∷ [])) all-kept rights));
            different = subst D (sym (ap (λ (xs : List ℕ). (0 ∷ xs) ++ tree_nodes g new) s.head.map ∙ ap (λ (xs : List ℕ). own_nodes old ++ xs) raise-nodes))
                (distinct-put (own_nodes old) (tree_nodes g old) m sound.structure.levels.different m-others);
          };
          ends = record {
            first = s.first_leaf ∙ sound.structure.ends.first ∙ ap first_of (sym raise-leaves);
            last = s.last_leaf ∙ sound.structure.ends.last ∙ ap last_of (sym raise-leaves);
            empty = λ none. absurd (let deep = s.depth in omega arith);
          };
        };
        counts = record {
          records = s.records ∙ sound.counts.records ∙ sym (ap (λ (ps : Pairs K). length ps) raise-content);
          free = s.free ∙ sound.counts.free ∙ sym raise-free;
        };
        ordered = raise-ordered;
      }
