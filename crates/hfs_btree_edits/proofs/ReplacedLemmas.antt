-- A tree in which a pair has taken the place of one with an equal key.
use Rattle.std.proofs.Common.{◌≡◌, ◌≢◌, ℕ, zero, suc, ◌+◌, ◌<◌, ◌≤◌, true, List, [], ◌∷◌, ◌++◌, length, map, get_or, set, take, drop, refl, sym, ap, ◌∙◌, subst, arith, inl, inr, append_assoc, length-append}
use Rattle.std.specs.Prelude.{Ok, Option, Some}
use Rattle.std.specs.List.{flat_map}
use Rattle.std.specs.Cmp.{IsTotalOrder}
use Rattle.std.specs.declared.cmp.Ordering.TheVariants.{Equal}
use Rattle.std.proofs.lemmas.Bool.{cases_eq}
use Rattle.std.proofs.lemmas.List.{length-set, get_or-set_same, get_or-set_other}
use Rattle.std.proofs.lemmas.List.Concat.{flat_map-append}
use Rattle.hfs_btree.specs.declared.node.Node.{Node}
use Rattle.hfs_btree.specs.declared.kind.NodeKind.TheVariants.{Leaf}
use Rattle.hfs_btree.specs.declared.header.Header.{Header}
use Rattle.hfs_btree.specs.declared.key.Key.{Ghosts}
use Rattle.hfs_btree.specs.Pairs.{Pairs, Rises, IsAbove, lookup}
use Rattle.hfs_fields.specs.Each.{Each}
use Rattle.hfs_fields.proofs.ElementLemmas.{each-at, each-mono, each-both, each-unmap, each-left, each-right}
use Rattle.hfs_btree.specs.Tree.{Store, Spot, level_below, last_level, node_in, records_in, records_of, children, pair_of, pairs, first_of, spots, turn}
use Rattle.hfs_btree.specs.Header.{header_in, depth_of, root_level, tree_content, tree_turn, tree_nodes, own_nodes, free_nodes}
use Rattle.hfs_btree.specs.Sound.{IsDistinct, IsOther, IsRight, IsSound, IsExact, HasCounts, AreKeysExact, AreKeysInOrder, first_key}
use Rattle.hfs_btree.specs.Search.{leaf_for}
use Rattle.hfs_btree.proofs.SearchLemmas.{IsLeafFor}
use Rattle.hfs_btree_edits.specs.Edits.{HasReplaced, with_replaced}
use Rattle.hfs_btree_edits.specs.Conditions.{IsNoLonger, IsThere}
use Rattle.hfs_btree.specs.Laid.{IsClear}
use Rattle.hfs_btree.specs.Tree.{key_at}
use Rattle.hfs_btree_edits.specs.KeptKeys.{EachKey}
use Rattle.hfs_btree_edits.proofs.KeptKeyLemmas.{hold-keys_with}
use Rattle.hfs_btree_edits.specs.Stored.{HasStored, bytes_in}
use Rattle.hfs_btree.specs.Node.{node_of, size_of, Fits}
use Rattle.hfs_btree.proofs.SizeLemmas.{size_of-set}
use Rattle.hfs_btree.proofs.DecodedLemmas.{read-in}
use Rattle.hfs_btree.proofs.FoundLemmas.{found-entries, found-body}
use Rattle.hfs_btree.proofs.LevelLemmas.{each-spots, map-split, at-spot}
use Rattle.hfs_btree.proofs.DescentLemmas.{leaf-found, leaf-node, content-about, content-none}
use Rattle.hfs_fields.proofs.PartLemmas.{flat_map-same}
use Rattle.hfs_btree_edits.proofs.KeptLemmas.{header-kept, marks-kept, free-same}
use Rattle.hfs_btree_edits.proofs.EditedLemmas.{IsEdited, at-height, height-in, head-stays, map-stays, turn-stays, leaves-stay, nodes-stay, frame-stays, structure-stays}
use Rattle.hfs_btree_edits.proofs.EditedPairLemmas.{rises-before, rises-with, replaced-at, above-equal, swap-equal}
use Rattle.hfs_btree_edits.proofs.EditedOrderLemmas.{StaysAt, keys-stay, turn-step}
use Rattle.hfs_btree_edits.proofs.BoundLemmas.{KeepsBounds, bounds-same, bounds-with}
use Rattle.hfs_btree_edits.proofs.DistinctLemmas.{distinct-right, other-before, other-behind, last-distinct}

-- what is looked up in no pairs isn't there
pub none-there : {K : Type 0} (g : Ghosts K) (nodes : Store) (key : K) (body : List ℕ) → IsNoLonger body (lookup g.compare key (tree_content g nodes)) → 0 < depth_of nodes
none-there g nodes key body h =
    elim (cases_eq (depth_of nodes) 0) [
      | inl none ↦ absurd (let P : Pairs _ → Type 0 = λ ps. IsNoLonger body (lookup g.compare key ps) in subst P (content-none g nodes none) h)
      | inr some ↦ omega arith
    ]

pub each-set : {X : Type 0} (P : X → Type 0) (xs : List X) (i : ℕ) (x : X) → Each P xs → P x → Each P (set xs i x)
each-set P [] i x h e = tt
each-set P (y ∷ ys) zero x h e = (e, h.1)
each-set P (y ∷ ys) (suc i) x h e = (h.0, each-set P ys i x h.1 e)

pub map-set : {X Y : Type 0} (f : X → Y) (xs : List X) (q : ℕ) (x : X) → q < length xs → map f (set xs q x) ≡ map f (take q xs) ++ f x ∷ map f (drop (suc q) xs)
map-set f [] q x lt = absurd (omega arith)
map-set f (y ∷ ys) zero x lt = refl
map-set f (y ∷ ys) (suc q) x lt = ap (λ zs. f y ∷ zs) (map-set f ys q x (omega arith))

module _ {K : Type 0} (g : Ghosts K) (total : IsTotalOrder g.compare) (old new : Store) (sound : IsSound g old) (some : 0 < depth_of old) (key : K) (body : List ℕ)
    (n : ℕ) (goal : n ≡ leaf_for g old key) (v : Node) (place : ℕ) (within : place < length v.records) (equal : g.compare key (g.leaf_key (get_or v.records place [])) ≡ Equal)
    (made : List ℕ) (leaf : g.is_leaf made ≡ true) (made_key : g.leaf_key made ≡ key) (made_body : drop (g.body_start made) made ≡ body)
    (edit : IsEdited old new n v (set v.records place made)) (bytes-stay : (m : ℕ) → m ≢ n → bytes_in new m ≡ bytes_in old m) (clear : IsClear (set v.records place made) (bytes_in new n)) where
  found : IsLeafFor g old key n
  found = let P : ℕ → Type 0 = λ m. IsLeafFor g old key m in subst P (sym goal) (leaf-found g old sound total key some)

  spot : (l : ℕ) × IsRight g old (record { left = l; n = n; right = first_of found.behind; above = 0 })
  spot = leaf-node g old sound.structure found.before n found.behind found.split

  value-is : spot.1.value ≡ v
  value-is = let e = sym spot.1.decodes ∙ edit.was in cc

  kind-is : v.kind ≡ Leaf
  kind-is = ap (λ (w : Node). w.kind) (sym value-is) ∙ spot.1.kind

  height-is : v.height ≡ 0 + 1
  height-is = ap (λ (w : Node). w.height) (sym value-is) ∙ spot.1.height

  abbrev es : List (List ℕ)
  es = v.records

  abbrev siblings : 0 < 0 → map g.child (set es place made) ≡ map g.child es
  siblings lt = absurd (omega arith)

  some-left : 1 ≤ length (set es place made)
  some-left = omega (arith, length-set es place made)

  whole : Each (λ e. g.is_leaf e ≡ true) (set es place made)
  whole = let P : Node → Type 0 = λ w. Each (λ e. g.is_leaf e ≡ true) w.records in each-set (λ e. g.is_leaf e ≡ true) es place made (subst P value-is spot.1.whole) leaf

  -- ---- the pairs

  abbrev p : K × List ℕ
  p = pair_of g (get_or es place [])

  abbrev front : Pairs K
  front = map (pair_of g) (take place es)

  abbrev back : Pairs K
  back = map (pair_of g) (drop (suc place) es)

  was-pairs : pairs g old n ≡ front ++ p ∷ back
  was-pairs = ap (λ r. map (pair_of g) (records_of r)) edit.was ∙ map-split (pair_of g) es place [] within

  made-pair : pair_of g made ≡ (key, body)
  made-pair = λ i. (made_key i, made_body i)

  are-pairs : pairs g new n ≡ front ++ (key, body) ∷ back
  are-pairs =
      ap (λ r. map (pair_of g) (records_of r)) edit.is ∙ map-set (pair_of g) es place made within ∙ ap (λ (q : K × List ℕ). front ++ q ∷ back) made-pair

  -- ---- the content

  different : IsDistinct (found.before ++ n ∷ found.behind)
  different =
      let P : List ℕ → Type 0 = IsDistinct in
      subst P found.split (last-distinct g old (depth_of old) (root_level old) (distinct-right (own_nodes old) (tree_nodes g old) sound.structure.levels.different))

  other-pairs : (ns : List ℕ) → Each (λ m. m ≢ n) ns → flat_map (pairs g new) ns ≡ flat_map (pairs g old) ns
  other-pairs ns h = flat_map-same (pairs g new) (pairs g old) ns (each-mono (λ m. m ≢ n) _ ns (λ m d. ap (λ r. map (pair_of g) (records_of r)) (edit.others m d)) h)

  abbrev xs : Pairs K
  xs = flat_map (pairs g old) found.before ++ front

  abbrev ys : Pairs K
  ys = back ++ flat_map (pairs g old) found.behind

  regroup : (a f : Pairs K) (q : K × List ℕ) (b c : Pairs K) → a ++ ((f ++ q ∷ b) ++ c) ≡ (a ++ f) ++ q ∷ (b ++ c)
  regroup a f q b c = simp append_assoc

  was-content : tree_content g old ≡ xs ++ p ∷ ys
  was-content =
      content-about g old found.before n found.behind found.split
      ∙ ap (λ (ps : Pairs K). flat_map (pairs g old) found.before ++ (ps ++ flat_map (pairs g old) found.behind)) was-pairs
      ∙ regroup (flat_map (pairs g old) found.before) front p back (flat_map (pairs g old) found.behind)

  is-content : tree_content g new ≡ xs ++ (key, body) ∷ ys
  is-content =
      ap (flat_map (pairs g new)) (leaves-stay g old new n v (set es place made) edit 0 kind-is height-is sound.structure siblings ∙ found.split)
      ∙ flat_map-append (pairs g new) found.before (n ∷ found.behind)
      ∙ ap (λ (ps : Pairs K). ps ++ flat_map (pairs g new) (n ∷ found.behind)) (other-pairs found.before (other-before found.before n found.behind different))
      ∙ ap (λ (ps : Pairs K). flat_map (pairs g old) found.before ++ (ps ++ flat_map (pairs g new) found.behind)) are-pairs
      ∙ ap (λ (ps : Pairs K). flat_map (pairs g old) found.before ++ ((front ++ (key, body) ∷ back) ++ ps)) (other-pairs found.behind (other-behind found.before n found.behind different))
      ∙ regroup (flat_map (pairs g old) found.before) front (key, body) back (flat_map (pairs g old) found.behind)

  rising : Rises g.compare (xs ++ p ∷ ys)
  rising = let P : Pairs K → Type 0 = λ ps. Rises g.compare ps in subst P was-content sound.ordered.rises

  above-front : IsAbove g.compare key xs
  above-front = above-equal g.compare total p.0 key xs equal (rises-before g.compare total xs p ys rising)

  content-is : tree_content g new ≡ with_replaced g.compare key body (tree_content g old)
  content-is = is-content ∙ sym (replaced-at g.compare total key body xs p ys above-front equal) ∙ sym (ap (with_replaced g.compare key body) was-content)

  -- ---- the order

  leaf-bounds : (m : ℕ) → KeepsBounds g.compare (pairs g old m) (pairs g new m)
  leaf-bounds m =
      elim (cases_eq m n) [
        | inl e ↦
            (let P : ℕ → Type 0 = λ k. KeepsBounds g.compare (pairs g old k) (pairs g new k) in
            let Q : Pairs K → Type 0 = λ ps. KeepsBounds g.compare ps (pairs g new n) in
            let R : Pairs K → Type 0 = λ ps. KeepsBounds g.compare (front ++ p ∷ back) ps in
            subst P (sym e) (subst Q (sym was-pairs) (subst R (sym are-pairs) (bounds-with g.compare total front p (key, body) back equal))))
        | inr d ↦ bounds-same g.compare total (pairs g old m) (pairs g new m) (ap (λ r. map (pair_of g) (records_of r)) (edit.others m d))
      ]

  not-here : (s : Spot) → IsRight g old s → 0 < s.above → s.n ≢ n
  not-here s right above e =
      let same : right.value.height ≡ v.height = ap height-in (sym right.decodes ∙ ap (node_in old) e ∙ edit.was) in
      let its = right.height in
      let own = height-is in
      absurd (omega arith)

  stays-at : (s : Spot) → IsRight g old s → StaysAt g total old new s
  stays-at s right = record {
    above = λ above. ap records_of (edit.others s.n (not-here s right above));
    leaf = λ none. leaf-bounds s.n;
  }

  all-stay : Each (StaysAt g total old new) (tree_turn g old)
  all-stay = each-mono (IsRight g old) (StaysAt g total old new) (tree_turn g old) stays-at sound.structure.levels.each

  turn-is : tree_turn g new ≡ tree_turn g old
  turn-is = turn-stays g old new n v (set es place made) edit 0 kind-is height-is sound.structure siblings

  keys-are : Each (λ s. AreKeysInOrder g new s.above s.n) (tree_turn g new)
  keys-are =
      let P : List Spot → Type 0 = λ ss. Each (λ s. AreKeysInOrder g new s.above s.n) ss in
      subst P (sym turn-is) (keys-stay g total old new (depth_of old) (root_level old) all-stay sound.ordered.keys)

  -- ---- first keys

  abbrev SameFirst : ℕ → ℕ → Type 0
  SameFirst k m = (x : K) → g.compare x (first_key g old k m) ≡ Equal → g.compare x (first_key g new k m) ≡ Equal

  equal-after : (x y z : K) → g.compare x y ≡ Equal → g.compare z y ≡ Equal → g.compare x z ≡ Equal
  equal-after x y z e f = total.congr x y z e ∙ swap-equal g.compare total z y f

  first-here : SameFirst 0 n
  first-here x e =
      let same : first_key g old 0 n ≡ g.leaf_key (get_or es 0 []) = ap (λ r. g.leaf_key (get_or (records_of r) 0 [])) edit.was in
      let now : first_key g new 0 n ≡ g.leaf_key (get_or (set es place made) 0 []) = ap (λ r. g.leaf_key (get_or (records_of r) 0 [])) edit.is in
      elim (cases_eq 0 place) [
        | inl z ↦
            (let first : g.leaf_key (get_or (set es place made) 0 []) ≡ key =
            ap (λ (i : ℕ). g.leaf_key (get_or (set es place made) i [])) z ∙ ap g.leaf_key (get_or-set_same es place made [] within) ∙ made_key in
            let was : first_key g old 0 n ≡ g.leaf_key (get_or es place []) = same ∙ ap (λ (i : ℕ). g.leaf_key (get_or es i [])) z in
            ap (g.compare x) (now ∙ first) ∙ equal-after x (g.leaf_key (get_or es place [])) key (ap (g.compare x) (sym was) ∙ e) equal)
        | inr d ↦ ap (g.compare x) (now ∙ ap g.leaf_key (get_or-set_other es place 0 made [] d) ∙ sym same) ∙ e
      ]

  first-leaf : (m : ℕ) → SameFirst 0 m
  first-leaf m =
      elim (cases_eq m n) [
        | inl e ↦ (let P : ℕ → Type 0 = λ k. SameFirst 0 k in subst P (sym e) first-here)
        | inr d ↦ λ x h. ap (λ r. g.compare x (g.leaf_key (get_or (records_of r) 0 []))) (edit.others m d) ∙ h
      ]

  first-at : (k m : ℕ) → (0 < k → records_in new m ≡ records_in old m) → SameFirst k m
  first-at zero m same = first-leaf m
  first-at (suc k) m same = λ x h. ap (λ (rs : List (List ℕ)). g.compare x (g.index_key (get_or rs 0 []))) (same (omega arith)) ∙ h

  firsts : (k : ℕ) (ns : List ℕ) → Each (StaysAt g total old new) (turn g old (suc k) ns) → Each (SameFirst k) ns
  firsts k ns h =
      each-spots (StaysAt g total old new) (SameFirst k) k (λ l m r stays. first-at k m stays.above) 0 ns
      (each-left (StaysAt g total old new) (spots k 0 ns) (turn g old k (flat_map (children g old) ns)) h)

  abbrev Exact : Spot → Type 0
  Exact s = AreKeysExact g old s.above s.n

  abbrev Exact' : Spot → Type 0
  Exact' s = AreKeysExact g new s.above s.n

  each-exact : (k : ℕ) (rs : List (List ℕ)) → Each (SameFirst k) (map g.child rs) → Each (λ e. g.compare (g.index_key e) (first_key g old k (g.child e)) ≡ Equal) rs
      → Each (λ e. g.compare (g.index_key e) (first_key g new k (g.child e)) ≡ Equal) rs
  each-exact k [] f h = tt
  each-exact k (e ∷ rs) f h = (f.0 (g.index_key e) h.0, each-exact k rs f.1 h.1)

  exact-step : (k l m r : ℕ) → StaysAt g total old new (record { left = l; n = m; right = r; above = suc k }) → Each (SameFirst k) (children g old m)
      → Exact (record { left = l; n = m; right = r; above = suc k }) → Exact' (record { left = l; n = m; right = r; above = suc k })
  exact-step k l m r stays f h =
      let P : List (List ℕ) → Type 0 = λ rs. Each (λ e. g.compare (g.index_key e) (first_key g new k (g.child e)) ≡ Equal) rs in
      subst P (sym (stays.above (omega arith))) (each-exact k (records_in old m) f h)

  exact-is : IsExact g old → IsExact g new
  exact-is exact =
      let P : List Spot → Type 0 = λ ss. Each Exact' ss in
      subst P (sym turn-is)
      (turn-step g old (StaysAt g total old new) Exact Exact' SameFirst firsts (λ l m r s e. tt) exact-step (depth_of old) (root_level old) all-stay exact)

  -- ---- all keys

  keys-at : (P : K → Type 0) → P key → (s : Spot) → IsRight g old s → Each (λ e. P (key_at g s.above e)) (records_in old s.n) → Each (λ e. P (key_at g s.above e)) (records_in new s.n)
  keys-at P own s right h =
      let A : ℕ → Type 0 = λ a. Each (λ e. P (key_at g a e)) (records_in new s.n) in
      let B : ℕ → Type 0 = λ a. Each (λ e. P (key_at g a e)) (records_in old s.n) in
      let R : List (List ℕ) → Type 0 = λ rs. Each (λ e. P (g.leaf_key e)) rs in
      let S : List (List ℕ) → Type 0 = λ rs. Each (λ e. P (key_at g s.above e)) rs in
      elim (cases_eq s.n n) [
        | inl e ↦
            (let above = at-height g old new n v (set es place made) edit 0 kind-is height-is sound.structure s right e in
            let was : Each (λ e. P (g.leaf_key e)) es = subst R (ap records_of (ap (node_in old) e ∙ edit.was)) (subst B above h) in
            subst A (sym above) (subst R (sym (ap records_of (ap (node_in new) e ∙ edit.is))) (each-set (λ e. P (g.leaf_key e)) es place made was (subst P (sym made_key) own))))
        | inr d ↦ subst S (sym (ap records_of (edit.others s.n d))) h
      ]

  keys-stand : (P : K → Type 0) → EachKey g P old → P key → EachKey g P new
  keys-stand P was own =
      let Q : List Spot → Type 0 = λ ss. Each (λ (s : Spot). Each (λ e. P (key_at g s.above e)) (records_in new s.n)) ss in
      subst Q (sym turn-is)
      (each-mono (λ (s : Spot). IsRight g old s × Each (λ e. P (key_at g s.above e)) (records_in old s.n)) (λ (s : Spot). Each (λ e. P (key_at g s.above e)) (records_in new s.n)) (tree_turn g old)
      (λ s h. keys-at P own s h.0 h.1)
      (each-both (IsRight g old) (λ (s : Spot). Each (λ e. P (key_at g s.above e)) (records_in old s.n)) (tree_turn g old) sound.structure.levels.each was))

  -- ---- the bytes of the nodes

  leaf-spots : (P : Spot → Type 0) (k : ℕ) (ns : List ℕ) → Each P (turn g old (suc k) ns) → Each P (spots 0 0 (level_below g old k ns))
  leaf-spots P zero ns h = each-left P (spots 0 0 ns) [] h
  leaf-spots P (suc k) ns h = leaf-spots P k (flat_map (children g old) ns) (each-right P (spots (suc k) 0 ns) (turn g old (suc k) (flat_map (children g old) ns)) h)

  last-spots : (P : Spot → Type 0) (d : ℕ) (ns : List ℕ) → Each P (turn g old d ns) → Each P (spots 0 0 (last_level g old d ns))
  last-spots P zero ns h = tt
  last-spots P (suc k) ns h = leaf-spots P k ns h

  leaf-among : (m : ℕ) → Each (IsOther m) (tree_nodes g old) → m ≢ n
  leaf-among m h =
      let P : Spot → Type 0 = λ s. IsOther m s.n in
      let Q : List ℕ → Type 0 = λ ns. Each P (spots 0 0 ns) in
      let at = at-spot P 0 0 found.before n found.behind (subst Q found.split (last-spots P (depth_of old) (root_level old) (each-unmap (IsOther m) (λ (s : Spot). s.n) (tree_turn g old) h))) in
      λ e. at.1 (sym e)

  rest-stays : (m : ℕ) → Each (IsOther m) (own_nodes old ++ (tree_nodes g old ++ tree_nodes g new)) → bytes_in new m ≡ bytes_in old m
  rest-stays m h =
      bytes-stay m (leaf-among m (each-left (IsOther m) (tree_nodes g old) (tree_nodes g new) (each-right (IsOther m) (own_nodes old) (tree_nodes g old ++ tree_nodes g new) h)))

  clear-is : IsClear (records_in new (leaf_for g old key)) (bytes_in new (leaf_for g old key))
  clear-is =
      let P : ℕ → Type 0 = λ m. IsClear (records_in new m) (bytes_in new m) in
      let Q : List (List ℕ) → Type 0 = λ rs. IsClear rs (bytes_in new n) in
      subst P goal (subst Q (sym (ap records_of edit.is)) clear)

  -- ---- the whole

  header-is : header_in new ≡ header_in old
  header-is =
      let h = head-stays g old new n v (set es place made) edit 0 kind-is height-is sound.structure in
      let m = map-stays g old new n v (set es place made) edit 0 kind-is height-is sound.structure in
      header-kept old new h m

  free-is : free_nodes new ≡ free_nodes old
  free-is =
      let h = head-stays g old new n v (set es place made) edit 0 kind-is height-is sound.structure in
      let m = map-stays g old new n v (set es place made) edit 0 kind-is height-is sound.structure in
      free-same old new (marks-kept old new h m)

  same-length : length (tree_content g new) ≡ length (tree_content g old)
  same-length =
      let a = ap (λ (ps : Pairs K). length ps) was-content in
      let b = ap (λ (ps : Pairs K). length ps) is-content in
      omega (arith, length-append xs (p ∷ ys), length-append xs ((key, body) ∷ ys))

  counts-are : HasCounts g new
  counts-are = record {
    records = ap (λ (h : Header). h.records) header-is ∙ sound.counts.records ∙ sym same-length;
    free = ap (λ (h : Header). h.free_nodes) header-is ∙ sound.counts.free ∙ sym free-is;
  }

  rises-is : Rises g.compare (tree_content g new)
  rises-is = let P : Pairs K → Type 0 = λ ps. Rises g.compare ps in subst P (sym is-content) (rises-with g.compare total xs p (key, body) ys equal rising)

  free-nodes : free_nodes new + length (tree_nodes g new) ≡ free_nodes old + length (tree_nodes g old)
  free-nodes =
      let same = ap (λ (ns : List ℕ). length ns) (nodes-stay g old new n v (set es place made) edit 0 kind-is height-is sound.structure siblings) in
      let free = free-is in
      omega arith

  pub has-replaced : HasReplaced g key body old new
  has-replaced = record {
    keeps = record {
      sound = record {
        structure = structure-stays g old new n v (set es place made) edit 0 kind-is height-is sound.structure siblings some-left whole;
        counts = counts-are;
        ordered = record { rises = rises-is; keys = keys-are };
      };
      exact = exact-is;
      frame = frame-stays g old new n v (set es place made) edit 0 kind-is height-is sound.structure siblings;
      free = free-nodes;
      rest = rest-stays;
    };
    content = content-is;
    keys = hold-keys_with g old new key keys-stand;
    clear = clear-is;
    others = λ m d. bytes-stay m (λ e. d (e ∙ goal));
    free = free-is;
    depth = ap (λ (h : Header). h.depth) header-is;
  }

-- ---- the same of a leaf that was read and stored

module _ {K : Type 0} (g : Ghosts K) (total : IsTotalOrder g.compare) (old : Store) (sound : IsSound g old) (key : K) (body : List ℕ) (there : IsNoLonger body (lookup g.compare key (tree_content g old)))
    (n : ℕ) (goal : n ≡ leaf_for g old key) (bytes : List ℕ) (read : bytes ≡ get_or old n []) where
  pub replaced-entries : Each (λ e. g.is_leaf e ≡ true) (records_of (node_of bytes))
  replaced-entries = found-entries g total old key sound (none-there g old key body there) n goal bytes read

  pub replaced-no_longer : IsNoLonger body (lookup g.compare key (map (pair_of g) (records_of (node_of bytes))))
  replaced-no_longer =
      let P : Option (List ℕ) → Type 0 = λ o. IsNoLonger body o in
      subst P (sym (found-body g total old key sound (none-there g old key body there) n goal bytes read)) there

  module _ (v : Node) (decodes : node_of bytes ≡ Ok v) (place : ℕ) (within : place < length (records_of (node_of bytes)))
      (equal : g.compare key (g.leaf_key (get_or (records_of (node_of bytes)) place [])) ≡ Equal) (made : List ℕ) where
    abbrev records-are : records_of (node_of bytes) ≡ v.records
    records-are = ap records_of decodes

    within' : place < length v.records
    within' = let same = ap (λ (rs : List (List ℕ)). length rs) records-are in omega arith

    equal' : g.compare key (g.leaf_key (get_or v.records place [])) ≡ Equal
    equal' = ap (λ (rs : List (List ℕ)). g.compare key (g.leaf_key (get_or rs place []))) (sym records-are) ∙ equal

    -- the new record has room
    module _ (least : (e : List ℕ) (k : K) → g.is_leaf e ≡ true → g.compare k (g.leaf_key e) ≡ Equal → length (g.leaf_head k) + length (drop (g.body_start e) e) ≤ length e)
        (room : Fits v) (written : made ≡ g.leaf_head key ++ body)
        (had : lookup g.compare key (map (pair_of g) (records_of (node_of bytes))) ≡ Some (drop (g.body_start (get_or (records_of (node_of bytes)) place [])) (get_or (records_of (node_of bytes)) place []))) where
      abbrev entry : List ℕ
      entry = get_or (records_of (node_of bytes)) place []

      pub replaced-fits : size_of (set v.records place made) ≤ 496
      replaced-fits =
          let P : Option (List ℕ) → Type 0 = λ o. IsNoLonger body o in
          let short : length body ≤ length (drop (g.body_start entry) entry) = subst P had replaced-no_longer in
          let leaf = each-at (λ e. g.is_leaf e ≡ true) (records_of (node_of bytes)) place [] replaced-entries within in
          let long = least entry key leaf equal in
          let len : length made ≡ length (g.leaf_head key) + length body = ap (λ (xs : List ℕ). length xs) written ∙ length-append (g.leaf_head key) body in
          let same = ap (λ (rs : List (List ℕ)). length (get_or rs place [])) records-are in
          omega (arith, size_of-set v.records place made within', room)

    pub replaced-by : (new : Store) → g.is_leaf made ≡ true → g.leaf_key made ≡ key → drop (g.body_start made) made ≡ body → (rs : List (List ℕ)) → rs ≡ set v.records place made
        → HasStored n (record v { records = rs }) old new → HasReplaced g key body old new
    replaced-by new leaf made_key made_body rs rest stored =
        has-replaced g total old new sound (none-there g old key body there) key body n goal v place within' equal' made leaf made_key made_body
        (record {
          was = sym (read-in old n bytes (node_of bytes) read refl) ∙ decodes;
          is = stored.here ∙ (λ i. Ok (record v { records = rest i }));
          others = stored.rest;
          len = stored.len;
        })
        stored.bytes
        (let P : List (List ℕ) → Type 0 = λ xs. IsClear xs (bytes_in new n) in subst P rest stored.clear)
