-- A new root, from the calls that put it.
use Rattle.std.proofs.Common.{◌≡◌, ℕ, suc, ◌+◌, ◌-◌, ◌<◌, ◌≤◌, List, [], ◌∷◌, ◌++◌, length, get_or, refl, sym, ap, ◌∙◌, subst, arith}
use Rattle.std.specs.Prelude.{true, false, Bool, Ok, Result, slice_index_or}
use Rattle.std.specs.Cmp.{IsTotalOrder}
use Rattle.std.specs.List.{flat_map}
use Rattle.hfs_btree.specs.declared.node.Node.{Node}
use Rattle.hfs_btree.specs.declared.fault.NodeFault.{NodeFault}
use Rattle.hfs_btree.specs.Node.{size_of}
use Rattle.hfs_btree.proofs.SizeLemmas.{size_of-insert, size_of-nil}
use Rattle.hfs_btree.specs.declared.header.Header.{Header}
use Rattle.hfs_btree.specs.declared.key.Key.{Ghosts}
use Rattle.hfs_fields.specs.Each.{Each}
use Rattle.hfs_fields.proofs.ElementLemmas.{each-at, each-left, each-right, each-append}
use Rattle.hfs_btree.specs.Tree.{Store, Spot, node_in, records_in, records_of, reads_at, key_at, first_of, level_below}
use Rattle.hfs_btree_edits.specs.KeptKeys.{EachKey}
use Rattle.hfs_btree_edits.proofs.KeptKeyLemmas.{hold-keys}
use Rattle.hfs_btree.specs.Header.{header_in, record_in, depth_of, root_level, own_nodes, tree_turn, tree_nodes}
use Rattle.hfs_btree.specs.Sound.{IsOther, IsSound, IsRight, IsStray, IsExact, AreKeysExact, first_key}
use Rattle.hfs_btree.specs.Search.{child_for, leaf_under}
use Rattle.hfs_btree_edits.specs.Stored.{Decodes, HasStored, HasHeaderPut, HasClaimed}
use Rattle.hfs_btree_edits.specs.LevelParts.{entry_key}
use Rattle.hfs_btree_insertion.specs.Raise.{IsRootAbove, IsRaised, HasRootPut}
use Rattle.hfs_btree_insertion.specs.Growth.{KeepsLevels, NodesStay, KeysStay, HasRaised}
use Rattle.hfs_btree.proofs.DescentLemmas.{IsOnWay, root-way, way-node}
use Rattle.hfs_btree_insertion.proofs.Exacts.{first-entry, Exact, turn-exact, keeps-first}
use Rattle.hfs_btree_insertion.proofs.PartLists.{equal-key}
use Rattle.hfs_btree_edits.proofs.DecodesLemmas.{decodes-as}
use Rattle.hfs_btree_edits.proofs.HeadLemmas.{header-new, head-kept, header-kept, map-kept}
use Rattle.hfs_btree_edits.proofs.OwnLemmas.{KeepsOwn, stored-own, own-header, own-head, own-has-header, own-has-map, head-then}
use Rattle.hfs_btree_insertion.proofs.PutWhole.{head-long, own-long}
use Rattle.hfs_btree_insertion.proofs.Raises.{all-keep, below, raise-turn, raise-nodes, raise-content, raise-sound, records-root, turn-old}
use Rattle.hfs_btree_edits.proofs.LevelPartLemmas.{KeepsRecords, KeepsAt}
use Rattle.hfs_btree_insertion.proofs.LevelWays.{level-same, record-same, under-same, child-one, levels-then}
use Rattle.hfs_btree_insertion.proofs.CutKeys.{key-same, kept-keys, claimed-stay, claimed-keys, stay-then, keys-then}
use Rattle.hfs_btree_insertion.proofs.Taken.{HasTaken, taken-keeps, taken-free, taken-content, claimed-levels, claimed-depth}

-- ---- the old root

module _ {K : Type 0} (g : Ghosts K) (nodes : Store) (sound : IsSound g nodes) (some : 0 < depth_of nodes) (h : Header) (is : h ≡ header_in nodes) where
  way : IsOnWay g nodes (depth_of nodes - 1) (header_in nodes).root
  way = root-way g nodes sound.structure some

  root-spot : (l : ℕ) × IsRight g nodes (record { left = l; n = (header_in nodes).root; right = first_of way.behind; above = depth_of nodes - 1 })
  root-spot = way-node g nodes (depth_of nodes - 1) (header_in nodes).root way

  pub root-decodes : Decodes nodes h.root
  root-decodes = let P : ℕ → Type 0 = λ r. Decodes nodes r in subst P (sym (ap (λ (x : Header). x.root) is)) (decodes-as nodes (header_in nodes).root root-spot.1.value root-spot.1.decodes)

  root-reads : Each (λ e. reads_at g (depth_of nodes - 1) e ≡ true) (records_in nodes (header_in nodes).root)
  root-reads = let P : Result Node NodeFault → Type 0 = λ r. Each (λ e. reads_at g (depth_of nodes - 1) e ≡ true) (records_of r) in subst P (sym root-spot.1.decodes) root-spot.1.whole

  root-some : 0 < length (records_in nodes (header_in nodes).root)
  root-some = let P : Result Node NodeFault → Type 0 = λ r. 0 < length (records_of r) in let has = root-spot.1.some in subst P (sym root-spot.1.decodes) (omega (arith, has))

  module _ (node : Node) (was : node_in nodes h.root ≡ Ok node) where
    loaded : node.records ≡ records_in nodes (header_in nodes).root
    loaded = sym (ap records_of was) ∙ ap (λ (x : Header). records_in nodes x.root) is

    pub first-there : 0 < length node.records
    first-there = let P : List (List ℕ) → Type 0 = λ xs. 0 < length xs in subst P (sym loaded) root-some

    pub first-reads : (e : List ℕ) (d : ℕ) → e ≡ slice_index_or node.records 0 [] → d ≡ h.depth - 1 → reads_at g d e ≡ true
    first-reads e d at deep =
        let P : List ℕ → Type 0 = λ x. reads_at g (depth_of nodes - 1) x ≡ true in
        let Q : ℕ → Type 0 = λ x. reads_at g x e ≡ true in
        let same : d ≡ depth_of nodes - 1 = deep ∙ ap (λ (x : Header). x.depth - 1) is in
        subst Q (sym same) (subst P (sym (at ∙ ap (λ (xs : List (List ℕ)). slice_index_or xs 0 []) loaded)) (each-at (λ e'. reads_at g (depth_of nodes - 1) e' ≡ true) (records_in nodes (header_in nodes).root) 0 [] root-reads root-some))

pub one-fits : (entry : List ℕ) (xs : List (List ℕ)) → xs ≡ entry ∷ [] → size_of xs ≡ length entry + 2
one-fits entry xs is =
    let size = size_of-insert [] 0 entry in
    let none = size_of-nil in
    ap size_of is ∙ (let e : size_of (entry ∷ []) ≡ length entry + 2 = size ∙ (let z : size_of [] + (length entry + 2) ≡ length entry + 2 = omega (arith, none) in z) in e)

pub root-fits : {K : Type 0} (g : Ghosts K) (nodes : Store) (root : Node) → IsRootAbove g nodes root → ((e : List ℕ) → g.is_index e ≡ true → length e ≤ 42) → size_of root.records ≤ 496
root-fits g nodes root above small =
    let size = one-fits above.entry root.records above.one in
    let len = small above.entry above.index in
    omega (arith, size, len)

-- ---- the writes

module _ {K : Type 0} (g : Ghosts K) (total : IsTotalOrder g.compare) (old x : Store) (m : ℕ) (root : Node) (sound : IsSound g old) (some : 0 < depth_of old) (shallow : depth_of old ≤ 15) (stray : IsStray g old m)
    (above : IsRootAbove g old root) (stored : HasStored m root old x) where
  m-own : Each (IsOther m) (own_nodes old)
  m-own = each-left (IsOther m) (own_nodes old) (tree_nodes g old) stray.other

  x-own : KeepsOwn old x
  x-own = stored-own m root old x stored m-own

  pub root-long : (0 < length x) × (30 ≤ length (record_in x 0 0))
  root-long = own-long old x x-own (head-long g old sound.structure.header)

  abbrev d : ℕ
  d = depth_of old - 1

  module _ (h : Header) (new : Store) (is : h ≡ record (header_in old) { root = m; depth = depth_of old + 1 }) (put : HasHeaderPut h x new) where
    count : h.nodes ≡ (header_in x).nodes
    count = ap (λ (y : Header). y.nodes) is ∙ sym (ap (λ (y : Header). y.nodes) (own-header old x x-own))

    new-is : header_in new ≡ record (header_in old) { root = m; depth = depth_of old + 1 }
    new-is = header-new h x new put count ∙ is

    pub raised : IsRaised g old new (depth_of old - 1) m
    raised = record {
      deep = omega (arith, some);
      stray = stray;
      entry = above.entry;
      index = above.index;
      names = above.names;
      keyed = above.keyed;
      node = root;
      is = put.stored.rest m (λ e. m-own.0 (sym e)) ∙ stored.here;
      forward = above.forward;
      backward = above.backward;
      kind = above.kind;
      height = above.height ∙ (let e : depth_of old + 1 ≡ suc (depth_of old - 1) + 1 = omega (arith, some) in e);
      one = above.one;
      rest = λ y zero' ne. put.stored.rest y zero' ∙ stored.rest y ne;
      bytes = λ y zero' ne. put.stored.bytes y zero' ∙ stored.bytes y ne;
      root = ap (λ (y : Header). y.root) new-is;
      depth = ap (λ (y : Header). y.depth) new-is ∙ (let e : depth_of old + 1 ≡ suc (suc (depth_of old - 1)) = omega (arith, some) in e);
      first_leaf = ap (λ (y : Header). y.first_leaf) new-is;
      last_leaf = ap (λ (y : Header). y.last_leaf) new-is;
      records = ap (λ (y : Header). y.records) new-is;
      free = ap (λ (y : Header). y.free_nodes) new-is;
      head = head-then old x new (own-head old x x-own) (head-kept h x new put count);
    }

    pub root-put : HasRootPut g old new m
    root-put =
        let size = ap (λ (y : Header). y.node_size) is ∙ sym (ap (λ (y : Header). y.node_size) (own-header old x x-own)) in
        let len = ap (λ (y : Header). y.key_len) is ∙ sym (ap (λ (y : Header). y.key_len) (own-header old x x-own)) in
        let deep = ap (λ (y : Header). y.depth) is in
        record {
          d = depth_of old - 1;
          raised = raised;
          sound = raise-sound g total old new (depth_of old - 1) m raised sound
              (header-kept h x new put count g size len (omega (arith, deep, shallow)) (own-has-header old x x-own g sound.structure.header))
              (map-kept h x new put count (own-has-map old x x-own sound.structure.map));
        }

-- the root has a record
root-there : {K : Type 0} (g : Ghosts K) (nodes : Store) (sound : IsSound g nodes) (d : ℕ) → depth_of nodes ≡ suc d → 0 < length (records_in nodes (header_in nodes).root)
root-there g nodes sound d deep = root-some g nodes sound (omega (arith, deep)) (header_in nodes) refl

-- ---- what it keeps

module _ {K : Type 0} (g : Ghosts K) (total : IsTotalOrder g.compare) (old new : Store) (m : ℕ) (sound : IsSound g old) (p : HasRootPut g old new m) where
  abbrev r : ℕ
  r = (header_in old).root

  abbrev s : IsRaised g old new p.d m
  s = p.raised

  keep : Each (KeepsAt g old new) (tree_turn g old)
  keep = let P : List Spot → Type 0 = λ ss. Each (KeepsAt g old new) ss in subst P (sym (turn-old g total old new p.d m s sound)) (all-keep g total old new p.d m s sound)

  put-exact : IsExact g old → IsExact g new
  put-exact exact =
      let P : List Spot → Type 0 = λ ss. Each (Exact g old new new) ss in
      let Q : List Spot → Type 0 = λ ss. Each (Exact g old new old) ss in
      let E : List (List ℕ) → Type 0 = λ xs. Each (λ e. g.compare (g.index_key e) (first_key g new p.d (g.child e)) ≡ Rattle.std.specs.declared.cmp.Ordering.TheVariants.Equal) xs in
      let C : K → Type 0 = λ y. g.compare (g.index_key s.entry) y ≡ Rattle.std.specs.declared.cmp.Ordering.TheVariants.Equal in
      let root-keeps : KeepsRecords g old new r = (all-keep g total old new p.d m s sound).0 in
      let first : g.index_key s.entry ≡ first_key g new p.d (g.child s.entry) =
      s.keyed ∙ ap (entry_key g p.d) (sym (keeps-first g old new r root-keeps)) ∙ sym (first-entry g new p.d r) ∙ ap (first_key g new p.d) (sym s.names) in
      let here : AreKeysExact g new (suc p.d) m = subst E (sym (records-root g total old new p.d m s sound)) (subst C first (equal-key g.compare total (g.index_key s.entry)), tt) in
      subst P (sym (raise-turn g total old new p.d m s sound))
      (here, subst P (sym (turn-old g total old new p.d m s sound)) (turn-exact g old new (suc p.d) (r ∷ []) (all-keep g total old new p.d m s sound) (subst Q (turn-old g total old new p.d m s sound) exact)))

  all-is : own_nodes new ++ tree_nodes g new ≡ own_nodes old ++ (m ∷ tree_nodes g old)
  all-is = ap (λ (xs : List ℕ). (0 ∷ xs) ++ tree_nodes g new) s.head.map ∙ ap (λ (xs : List ℕ). own_nodes old ++ xs) (raise-nodes g total old new p.d m s sound)

  pub root-taken : HasTaken g m old new
  root-taken =
      let M : (x : ℕ) → List Bool → Type 0 = λ x ms. slice_index_or ms x false ≡ true in
      let O : (x : ℕ) → List ℕ → Type 0 = λ x xs. Each (IsOther x) xs in
      record {
        sound = p.sound;
        exact = put-exact;
        head = s.head;
        gone = λ stray. (each-right (IsOther m) (own_nodes old) (m ∷ tree_nodes g old) (subst (O m) all-is stray.other)).0 refl;
        same = λ x ne. (
          λ stray.
              (let both = subst (O x) all-is stray.other in
              record {
                marked = subst (M x) s.head.marks stray.marked;
                other = each-append (IsOther x) (own_nodes old) (tree_nodes g old) (each-left (IsOther x) (own_nodes old) (m ∷ tree_nodes g old) both) (each-right (IsOther x) (own_nodes old) (m ∷ tree_nodes g old) both).1;
              }),
          λ stray.
              record {
                marked = subst (M x) (sym s.head.marks) stray.marked;
                other = subst (O x) (sym all-is)
                    (each-append (IsOther x) (own_nodes old) (m ∷ tree_nodes g old) (each-left (IsOther x) (own_nodes old) (tree_nodes g old) stray.other)
                    ((λ e. ne (sym e)), each-right (IsOther x) (own_nodes old) (tree_nodes g old) stray.other));
              },
        );
        rest = λ x other.
            (let zero' : IsOther x 0 = (each-left (IsOther x) (own_nodes old) (tree_nodes g old ++ tree_nodes g new) other).0 in
            let tree = each-right (IsOther x) (tree_nodes g old) (tree_nodes g new) (each-right (IsOther x) (own_nodes old) (tree_nodes g old ++ tree_nodes g new) other) in
            let root : IsOther x m = (subst (O x) (raise-nodes g total old new p.d m s sound) tree).0 in
            s.bytes x (λ e. zero' (sym e)) (λ e. root (sym e)));
        more = ap (λ (xs : List ℕ). length xs) (raise-nodes g total old new p.d m s sound) ∙ (let e : suc (length (tree_nodes g old)) ≡ length (tree_nodes g old) + 1 = omega arith in e);
      }

  pub new-deep : depth_of new ≡ suc (depth_of old)
  new-deep = s.depth ∙ ap suc (sym s.deep)

  pub root-levels : KeepsLevels g old new
  root-levels = record {
    levels = λ k lt.
        (let deep = new-deep in
        let e : depth_of new - 1 - k ≡ suc (depth_of old - 1 - k) = omega (arith, lt, deep) in
        ap (λ (j : ℕ). level_below g new j (root_level new)) e
        ∙ ap (λ (y : ℕ). level_below g new (suc (depth_of old - 1 - k)) (y ∷ [])) s.root
        ∙ ap (level_below g new (depth_of old - 1 - k)) (below g total old new p.d m s sound)
        ∙ level-same g old new sound.structure keep (depth_of old - 1 - k) (omega (arith, lt)));
    way = λ key k lt.
        (let deep = new-deep in
        let e : depth_of new - 1 - k ≡ suc (depth_of old - 1 - k) = omega (arith, lt, deep) in
        ap (λ (j : ℕ). leaf_under g new key j (header_in new).root) e
        ∙ ap (λ (y : ℕ). leaf_under g new key (suc (depth_of old - 1 - k)) y) s.root
        ∙ ap (leaf_under g new key (depth_of old - 1 - k)) (ap (child_for g key) (records-root g total old new p.d m s sound) ∙ child-one g new key s.entry ∙ s.names)
        ∙ under-same g old new sound.structure keep key (depth_of old - 1 - k) (omega (arith, lt)));
    records = λ key k lt. record-same g old new sound.structure keep key (depth_of old - 1 - k) (omega (arith, lt));
    size = λ key k lt. ap size_of (record-same g old new sound.structure keep key (depth_of old - 1 - k) (omega (arith, lt)));
  }

  pub root-size : ((e : List ℕ) → g.is_index e ≡ true → length e ≡ g.INDEX_KEY_LEN + 5) → size_of (records_in new (header_in new).root) ≡ g.INDEX_KEY_LEN + 7
  root-size index_len =
      let size = one-fits s.entry (records_in new (header_in new).root) (ap (records_in new) s.root ∙ records-root g total old new p.d m s sound) in
      let len = index_len s.entry s.index in
      omega (arith, size, len)

  -- no node leaves the levels
  pub root-others : NodesStay g old new
  root-others x other = (let P : List ℕ → Type 0 = λ xs. Each (IsOther x) xs in subst P (raise-nodes g total old new p.d m s sound) other).1

  -- ---- keys

  root-key : (P : K → Type 0) → EachKey g P old → P (g.index_key s.entry)
  root-key P was =
      let Q : Spot → Type 0 = λ y. Each (λ e. P (key_at g y.above e)) (records_in old y.n) in
      let R : List Spot → Type 0 = λ ss. Each Q ss in
      let first = (subst R (turn-old g total old new p.d m s sound) was).0 in
      let has : 0 < length (records_in old r) = root-there g old sound p.d s.deep in
      subst P (sym (s.keyed ∙ sym (key-same g p.d (get_or (records_in old r) 0 [])))) (each-at (λ e. P (key_at g p.d e)) (records_in old r) 0 [] first has)

  root-keys : (P : K → Type 0) → EachKey g P old → EachKey g P new
  root-keys P was =
      let Q : List Spot → Type 0 = λ ss. Each (λ (y : Spot). Each (λ e. P (key_at g y.above e)) (records_in new y.n)) ss in
      let F : List (List ℕ) → Type 0 = λ xs. Each (λ e. P (g.index_key e)) xs in
      let here : Each (λ e. P (g.index_key e)) (records_in new m) = subst F (sym (records-root g total old new p.d m s sound)) (root-key P was, tt) in
      subst Q (sym (raise-turn g total old new p.d m s sound)) (here, kept-keys g old new P (tree_turn g old) keep was)

  pub root-keys_stay : KeysStay g old new
  root-keys_stay = hold-keys g old new root-keys

-- ---- with the claim

pub raise-whole : {K : Type 0} (g : Ghosts K) (total : IsTotalOrder g.compare) (old mid new : Store) (m : ℕ) → IsSound g old → HasClaimed g m old mid → HasRootPut g mid new m
    → ((e : List ℕ) → g.is_index e ≡ true → length e ≡ g.INDEX_KEY_LEN + 5) → HasRaised g old new
raise-whole g total old mid new m sound c p index_len =
    let t = root-taken g total mid new m c.sound p in
    let same = claimed-depth g m old mid new c in
    record {
      keeps = taken-keeps g m old mid new c t;
      others = stay-then g old mid new (claimed-stay g m old mid c) (root-others g total mid new m c.sound p);
      keys = keys-then g old mid new (claimed-keys g m old mid c) (root-keys_stay g total mid new m c.sound p);
      content = taken-content g m old mid new c t (raise-content g total mid new p.d m p.raised c.sound);
      levels = levels-then g old mid new (omega (arith, same)) (claimed-levels g m old mid new c sound) (root-levels g total mid new m c.sound p);
      depth = new-deep g total mid new m c.sound p ∙ ap suc same;
      free = taken-free g m old mid new c t;
      root = root-size g total mid new m c.sound p index_len;
    }
