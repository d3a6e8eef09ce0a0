-- A pair in the place of the least one, whose key is that of the first records of the left edge.
use Rattle.std.proofs.Common.{◌≡◌, ◌≢◌, ℕ, zero, suc, ◌+◌, ◌-◌, ◌<◌, ◌≤◌, true, false, List, [], ◌∷◌, ◌++◌, length, map, get_or, set, drop, refl, sym, ap, ◌∙◌, subst, arith, inl, inr, append-nil}
use Rattle.std.specs.Prelude.{Ok, Result}
use Rattle.std.specs.List.{flat_map}
use Rattle.std.specs.Ordering.{is_gt}
use Rattle.std.specs.Cmp.{IsTotalOrder}
use Rattle.std.specs.declared.cmp.Ordering.TheVariants.{Less, Equal}
use Rattle.std.proofs.lemmas.Bool.{cases_eq}
use Rattle.std.proofs.lemmas.List.{length-set}
use Rattle.hfs_btree.specs.declared.node.Node.{Node}
use Rattle.hfs_btree.specs.declared.fault.NodeFault.{NodeFault}
use Rattle.hfs_btree.specs.Node.{size_of}
use Rattle.hfs_btree.proofs.SizeLemmas.{size_of-set}
use Rattle.hfs_btree.specs.declared.header.Header.{Header}
use Rattle.hfs_btree.specs.declared.key.Key.{Ghosts}
use Rattle.hfs_btree.specs.Pairs.{Order, Pairs, Rises, IsAtMost, IsAbove}
use Rattle.hfs_fields.specs.Each.{Each}
use Rattle.hfs_fields.proofs.ElementLemmas.{each-at, each-mono, each-both, each-left, each-right, each-map}
use Rattle.hfs_btree.specs.Tree.{Store, Spot, node_in, records_in, records_of, children, pair_of, pairs, spots, first_of, turn, under, kind_at, key_at}
use Rattle.hfs_btree.specs.Header.{header_in, depth_of, root_level, own_nodes, leaves, free_nodes, tree_turn, tree_nodes, tree_content}
use Rattle.hfs_btree.specs.Sound.{IsOther, IsDistinct, IsRight, IsSound, IsExact, HasStructure, AreKeysInOrder, AreKeysExact, ArePartsInOrder, part_of, first_key}
use Rattle.hfs_btree.proofs.LevelLemmas.{each-spots}
use Rattle.hfs_btree_edits.specs.Edits.{KeepsTree, level_above}
use Rattle.hfs_btree_edits.specs.KeptKeys.{EachKey}
use Rattle.hfs_btree_edits.specs.LevelParts.{lift}
use Rattle.hfs_btree_edits.specs.Stored.{HasStored}
use Rattle.hfs_btree_edits.proofs.DistinctLemmas.{distinct-right, last-distinct}
use Rattle.hfs_btree_edits.proofs.EditedLemmas.{IsEdited, head-stays, map-stays, turn-stays, leaves-stay, frame-stays, structure-stays}
use Rattle.hfs_btree_edits.proofs.EditedOrderLemmas.{each-flat, turn-step}
use Rattle.hfs_btree_edits.proofs.KeptKeyLemmas.{hold-keys_with}
use Rattle.hfs_btree_edits.proofs.KeptLemmas.{header-kept, marks-kept, free-same}
use Rattle.hfs_btree_edits.proofs.LevelPartLemmas.{KeepsUnder, node-kept, keys-kept, parts-kept, same-flat}
use Rattle.hfs_btree_edits.proofs.ReplacedLemmas.{each-set}
use Rattle.hfs_btree_insertion.proofs.Contents.{under-lift, content-under}
use Rattle.hfs_btree_insertion.proofs.PartLists.{equal-key, same-key}
use Rattle.hfs_btree_insertion.proofs.Steps.{frame-then}
use Rattle.hfs_btree_removal.proofs.Firsts.{from-level}
use Rattle.hfs_record_edits.specs.Edge.{edge, IsBelowAll, IsFirstSet, HasSetEdge, HasLowerLeast}
use Rattle.hfs_record_edits.proofs.EdgeLemmas.{deep-at, edge-level, edge-right, edge-some, edge-among, edge-height, edge-apart, edge-next, edge-once, edge-own, edge-leaves, turn-within}
use Rattle.hfs_record_edits.proofs.SetEdge.{edge-same, set-depth}

-- ---- lists

set-first : (xs : List (List ℕ)) (x : List ℕ) → 0 < length xs → set xs 0 x ≡ x ∷ drop 1 xs
set-first [] x some = absurd (omega (arith, some))
set-first (y ∷ ys) x some = refl

rest-first : (xs : List (List ℕ)) → 0 < length xs → xs ≡ get_or xs 0 [] ∷ drop 1 xs
rest-first [] some = absurd (omega (arith, some))
rest-first (x ∷ xs) some = refl

drop-map : {X Y : Type 0} (f : X → Y) (xs : List X) → drop 1 (map f xs) ≡ map f (drop 1 xs)
drop-map f [] = refl
drop-map f (x ∷ xs) = refl

drop-append : {X : Type 0} (xs ys : List X) → 0 < length xs → drop 1 (xs ++ ys) ≡ drop 1 xs ++ ys
drop-append [] ys some = absurd (omega (arith, some))
drop-append (x ∷ xs) ys some = refl

append-some : {X : Type 0} (xs ys : List X) → 0 < length xs → 0 < length (xs ++ ys)
append-some [] ys some = absurd (omega (arith, some))
append-some (x ∷ xs) ys some = omega arith

-- the pair stands in the place of the first one
pub record IsLower {K : Type 0} (p : K × List ℕ) (old new : Pairs K) : Type 0 where
  pub some : 0 < length old
  pub is : new ≡ p ∷ drop 1 old

lower-append : {K : Type 0} (p : K × List ℕ) (old new rest : Pairs K) → IsLower p old new → IsLower p (old ++ rest) (new ++ rest)
lower-append p old new rest h = record {
  some = append-some old rest h.some;
  is = ap (λ (xs : Pairs _). xs ++ rest) h.is ∙ ap (λ (xs : Pairs _). p ∷ xs) (sym (drop-append old rest h.some));
}

module _ {K : Type 0} (cmp : Order K) (total : IsTotalOrder cmp) (key : K) (body : List ℕ) where
  lower-rises : (ps : Pairs K) → IsBelowAll cmp key ps → Rises cmp ps → Rises cmp ((key, body) ∷ drop 1 ps)
  lower-rises [] below h = (tt, tt)
  lower-rises (p ∷ ps) below h = (below.1, h.1)

  lower-most : (ps : Pairs K) → IsBelowAll cmp key ps → IsAtMost cmp key ((key, body) ∷ drop 1 ps)
  lower-most [] below = (same-key cmp total key, tt)
  lower-most (p ∷ ps) below = (same-key cmp total key, each-mono (λ q. cmp key q.0 ≡ Less) (λ q. is_gt (cmp key q.0) ≡ false) ps (λ q e. ap is_gt e) below.1)

  lower-above : (ps : Pairs K) (t : K) → 0 < length ps → IsBelowAll cmp key ps → IsAbove cmp t ps → IsAbove cmp t ((key, body) ∷ drop 1 ps)
  lower-above [] t some below h = absurd (omega (arith, some))
  lower-above (p ∷ ps) t some below h = (total.trans key p.0 t below.0 h.0, h.1)

  lower-parts : (ps : Pairs K) (rest : List (K × Pairs K)) → 0 < length ps → IsBelowAll cmp key ps → ArePartsInOrder cmp ps rest → ArePartsInOrder cmp ((key, body) ∷ drop 1 ps) rest
  lower-parts ps [] some below h = tt
  lower-parts ps (part ∷ rest) some below h = (lower-above ps part.0 some below h.0, h.1, h.2)

module _ {K : Type 0} (g : Ghosts K) (total : IsTotalOrder g.compare) (key : K) (body : List ℕ) (old mid : Store) (sound : IsSound g old) (deep : 0 < depth_of old) (below : IsBelowAll g.compare key (tree_content g old))
    (a : HasSetEdge g key 0 old mid) (n : ℕ) (at : n ≡ edge g old 0) (v : Node) (was : node_in mid n ≡ Ok v) where
  abbrev L : ℕ → ℕ
  L k = edge g old k

  same-value : (u w : Node) (r : Result Node NodeFault) → r ≡ Ok u → r ≡ Ok w → u ≡ w
  same-value u w r x y = cc

  deep-mid : 0 < depth_of mid
  deep-mid = let d = set-depth g key 0 old mid a in omega (arith, d, deep)

  at-mid : edge g mid 0 ≡ n
  at-mid = edge-same g key 0 old mid a 0 ∙ sym at

  spot : (l : ℕ) × ((r : ℕ) × IsRight g mid (record { left = l; n = n; right = r; above = 0 }))
  spot =
      let is = edge-right g mid a.structure 0 deep-mid in
      let P : ℕ → Type 0 = λ m. IsRight g mid (record { left = is.0; n = m; right = first_of (drop 1 (level_above g mid 0)); above = 0 }) in
      (is.0, (first_of (drop 1 (level_above g mid 0)), subst P at-mid is.1))

  value-is : spot.1.1.value ≡ v
  value-is = same-value spot.1.1.value v (node_in mid n) spot.1.1.decodes was

  -- the leaf has the records that it had
  pub least-some : 0 < length v.records
  least-some = let some = spot.1.1.some in let same = ap (λ (w : Node). length w.records) value-is in omega (arith, some, same)

  pub least-whole : Each (λ e. g.is_leaf e ≡ true) v.records
  least-whole = let P : Node → Type 0 = λ w. Each (λ e. g.is_leaf e ≡ true) w.records in subst P value-is spot.1.1.whole

  was-old : records_in old n ≡ v.records
  was-old =
      let apart : (j : ℕ) → 0 < j → j < depth_of old → n ≢ L j =
      λ j lt lt' e. edge-apart g old sound.structure 0 j deep lt' (λ same. omega (arith, same, lt)) (sym at ∙ e) in
      sym (a.others n apart) ∙ ap records_of was

  module _ (made : List ℕ) (leaf : g.is_leaf made ≡ true) (keyed : g.leaf_key made ≡ key) (bodied : drop (g.body_start made) made ≡ body) (new : Store)
      (stored : HasStored n (record v { records = set v.records 0 made }) mid new) where
    abbrev rs : List (List ℕ)
    rs = set v.records 0 made

    edit : IsEdited mid new n v rs
    edit = record { was = was; is = stored.here; others = stored.rest; len = stored.len }

    kind-is : v.kind ≡ kind_at 0
    kind-is = ap (λ (w : Node). w.kind) (sym value-is) ∙ spot.1.1.kind

    height-is : v.height ≡ 0 + 1
    height-is = ap (λ (w : Node). w.height) (sym value-is) ∙ spot.1.1.height

    abbrev siblings : 0 < 0 → map g.child rs ≡ map g.child v.records
    siblings lt = absurd (omega (arith, lt))

    some : 1 ≤ length rs
    some = let has = least-some in omega (arith, has, length-set v.records 0 made)

    whole : Each (λ e. g.is_leaf e ≡ true) rs
    whole = each-set (λ e. g.is_leaf e ≡ true) v.records 0 made least-whole leaf

    structure : HasStructure g new
    structure = structure-stays g mid new n v rs edit 0 kind-is height-is a.structure siblings some whole

    header-is : header_in new ≡ header_in old
    header-is = header-kept mid new (head-stays g mid new n v rs edit 0 kind-is height-is a.structure) (map-stays g mid new n v rs edit 0 kind-is height-is a.structure) ∙ a.header

    free-is : free_nodes new ≡ free_nodes old
    free-is = free-same mid new (marks-kept mid new (head-stays g mid new n v rs edit 0 kind-is height-is a.structure) (map-stays g mid new n v rs edit 0 kind-is height-is a.structure)) ∙ a.free

    turn-is : tree_turn g new ≡ tree_turn g old
    turn-is = turn-stays g mid new n v rs edit 0 kind-is height-is a.structure siblings ∙ a.turn

    leaves-are : leaves g new ≡ leaves g old
    leaves-are = leaves-stay g mid new n v rs edit 0 kind-is height-is a.structure siblings ∙ a.leaves

    -- ---- which records have changed

    keeps : (s : Spot) → IsRight g old s → s.n ≢ L s.above → records_in new s.n ≡ records_in old s.n
    keeps s r aside =
        let off : (k : ℕ) → k < depth_of old → s.n ≢ L k =
        λ k lt e. (let up = edge-height g old sound.structure s r k lt e in let P : ℕ → Type 0 = λ j. s.n ≢ L j in subst P up aside e) in
        ap records_of (stored.rest s.n (λ e. off 0 deep (e ∙ at))) ∙ a.others s.n (λ k lt lt'. off k lt')

    index-set : (k : ℕ) → suc k < depth_of old → IsFirstSet g key (records_in old (L (suc k))) (records_in new (L (suc k)))
    index-set k lt =
        let P : Result Node NodeFault → Type 0 = λ r. IsFirstSet g key (records_in old (L (suc k))) (records_of r) in
        let other : L (suc k) ≢ n = λ e. edge-apart g old sound.structure (suc k) 0 lt deep (λ same. omega (arith, same)) (e ∙ at) in
        subst P (sym (stored.rest (L (suc k)) other)) (a.firsts (suc k) (omega arith) lt)

    leaf-set : records_in new (L 0) ≡ made ∷ drop 1 (records_in old (L 0))
    leaf-set =
        ap (records_in new) (sym at)
        ∙ ap records_of stored.here
        ∙ set-first v.records made least-some
        ∙ ap (λ (xs : List (List ℕ)). made ∷ drop 1 xs) (sym was-old)
        ∙ ap (λ (m : ℕ). made ∷ drop 1 (records_in old m)) at

    index-is : (k : ℕ) (lt : suc k < depth_of old) → records_in new (L (suc k)) ≡ (index-set k lt).made ∷ drop 1 (records_in old (L (suc k)))
    index-is k lt = (index-set k lt).is ∙ set-first (records_in old (L (suc k))) (index-set k lt).made (edge-some g old sound.structure (suc k) lt)

    made-pair : pair_of g made ≡ (key, body)
    made-pair = λ i. (keyed i, bodied i)

    -- ---- what is known at each spot

    pub record IsPlaced (s : Spot) : Type 0 where
      pub right : IsRight g old s
      pub within : s.above < depth_of old
      pub once : (k : ℕ) → s.above ≡ suc k → s.n ≢ L (suc k) → Each (λ x. x ≢ L k) (children g old s.n)

    once-all : (k : ℕ) → suc k < depth_of old → (s : Spot) → (s.n ≢ L (suc k) → 0 < s.above → Each (λ x. x ≢ L k) (children g old s.n)) → s.above ≡ suc k → s.n ≢ L (suc k) → Each (λ x. x ≢ L k) (children g old s.n)
    once-all k lt s f up aside = f aside (omega (arith, up))

    once-at : (k : ℕ) → suc k < depth_of old → Each (λ (s : Spot). s.above ≡ suc k → s.n ≢ L (suc k) → Each (λ x. x ≢ L k) (children g old s.n)) (tree_turn g old)
    once-at k lt = each-mono _ _ (tree_turn g old) (once-all k lt) (edge-once g old sound.structure k lt)

    each-place : (ss : List Spot) → Each (IsRight g old) ss → Each (λ (s : Spot). s.above < depth_of old) ss
        → ((k : ℕ) → suc k < depth_of old → Each (λ (s : Spot). s.above ≡ suc k → s.n ≢ L (suc k) → Each (λ x. x ≢ L k) (children g old s.n)) ss) → Each IsPlaced ss
    each-place [] r w o = tt
    each-place (s ∷ ss) r w o = (
      record { right = r.0; within = w.0; once = λ k up aside. (let lt = w.0 in (o k (omega (arith, lt, up))).0 up aside) },
      each-place ss r.1 w.1 (λ k lt. (o k lt).1),
    )

    placed : Each IsPlaced (tree_turn g old)
    placed = each-place (tree_turn g old) sound.structure.levels.each (turn-within g old (depth_of old) (root_level old)) (λ k lt. once-at k lt)

    -- the children of a node beside the edge are beside it
    sons-aside : (k l m r : ℕ) → IsPlaced (record { left = l; n = m; right = r; above = suc k }) → m ≢ L (suc k) → Each (λ x. x ≢ L k) (children g old m)
    sons-aside k l m r p aside = p.once k refl aside

    -- those of a node on it begin with the next one
    sons-edge : (k : ℕ) → suc k < depth_of old → children g old (L (suc k)) ≡ L k ∷ map g.child (drop 1 (records_in old (L (suc k))))
    sons-edge k lt =
        ap (map g.child) (rest-first (records_in old (L (suc k))) (edge-some g old sound.structure (suc k) lt))
        ∙ ap (λ (c : ℕ). c ∷ map g.child (drop 1 (records_in old (L (suc k))))) (sym (edge-next g old sound.structure k lt))

    sons-new : (k : ℕ) → suc k < depth_of old → children g new (L (suc k)) ≡ children g old (L (suc k))
    sons-new k lt =
        ap (map g.child) (index-is k lt)
        ∙ ap (λ (c : ℕ). c ∷ map g.child (drop 1 (records_in old (L (suc k))))) ((index-set k lt).names ∙ sym (edge-next g old sound.structure k lt))
        ∙ sym (sons-edge k lt)

    rest-aside : (k : ℕ) → suc k < depth_of old → Each (λ x. x ≢ L k) (map g.child (drop 1 (records_in old (L (suc k)))))
    rest-aside k lt = each-map (λ x. x ≢ L k) g.child (drop 1 (records_in old (L (suc k)))) (edge-own g old sound.structure k lt)

    -- ---- the pairs under each node

    pub record HasUnder (k m : ℕ) : Type 0 where
      pub aside : m ≢ L k → KeepsUnder g old new k m
      pub own : m ≡ L k → IsLower (key, body) (under g old k m) (under g new k m)

    leaf-under : (l m r : ℕ) → IsPlaced (record { left = l; n = m; right = r; above = 0 }) → HasUnder 0 m
    leaf-under l m r p = record {
      aside = λ aside. ap (map (pair_of g)) (keeps _ p.right aside);
      own = λ e. (let P : ℕ → Type 0 = λ x. IsLower (key, body) (pairs g old x) (pairs g new x) in
          let one = edge-some g old sound.structure 0 deep in
          let count = Rattle.std.proofs.lemmas.List.length-map (records_in old (L 0)) (pair_of g) in
          subst P (sym e) (record {
            some = omega (arith, one, count);
            is = ap (map (pair_of g)) leaf-set ∙ ap (λ (q : K × List ℕ). q ∷ map (pair_of g) (drop 1 (records_in old (L 0)))) made-pair
                ∙ ap (λ (qs : Pairs K). (key, body) ∷ qs) (sym (drop-map (pair_of g) (records_in old (L 0))));
          }));
    }

    sides : (k : ℕ) (ns : List ℕ) → Each (λ x. x ≢ L k) ns → Each (HasUnder k) ns → Each (KeepsUnder g old new k) ns
    sides k [] o h = tt
    sides k (m ∷ ns) o h = (h.0.aside o.0, sides k ns o.1 h.1)

    edge-under : (k : ℕ) → suc k < depth_of old → Each (HasUnder k) (children g old (L (suc k))) → IsLower (key, body) (under g old (suc k) (L (suc k))) (under g new (suc k) (L (suc k)))
    edge-under k lt h =
        let cs = map g.child (drop 1 (records_in old (L (suc k)))) in
        let H : List ℕ → Type 0 = λ ns. Each (HasUnder k) ns in
        let split = subst H (sons-edge k lt) h in
        let one = split.0.own refl in
        let same = same-flat g old new k cs (sides k cs (rest-aside k lt) split.1) in
        let O : Pairs K → Type 0 = λ ps. IsLower (key, body) ps (under g new (suc k) (L (suc k))) in
        let N : Pairs K → Type 0 = λ ps. IsLower (key, body) (under g old k (L k) ++ flat_map (under g old k) cs) ps in
        subst O (sym (ap (flat_map (under g old k)) (sons-edge k lt)))
        (subst N (sym (ap (flat_map (under g new k)) (sons-new k lt ∙ sons-edge k lt) ∙ ap (λ (ps : Pairs K). under g new k (L k) ++ ps) same))
        (lower-append (key, body) (under g old k (L k)) (under g new k (L k)) (flat_map (under g old k) cs) one))

    index-under : (k l m r : ℕ) → IsPlaced (record { left = l; n = m; right = r; above = suc k }) → Each (HasUnder k) (children g old m) → HasUnder (suc k) m
    index-under k l m r p h = record {
      aside = λ aside. node-kept g old new k m (keeps _ p.right aside) (sides k (children g old m) (sons-aside k l m r p aside) h);
      own = λ e.
          (let P : ℕ → Type 0 = λ x. IsLower (key, body) (under g old (suc k) x) (under g new (suc k) x) in
          let H : ℕ → Type 0 = λ x. Each (HasUnder k) (children g old x) in
          subst P (sym e) (edge-under k p.within (subst H e h)));
    }

    level-under : (k left : ℕ) (ns : List ℕ) → Each IsPlaced (spots (suc k) left ns) → Each (λ m. Each (HasUnder k) (children g old m)) ns → Each (HasUnder (suc k)) ns
    level-under k left [] p h = tt
    level-under k left (m ∷ ns) p h = (index-under k left m (first_of ns) p.0 h.0, level-under k m ns p.1 h.1)

    all-under : (k : ℕ) (ns : List ℕ) → Each IsPlaced (turn g old (suc k) ns) → Each (HasUnder k) ns
    all-under zero ns p = each-spots IsPlaced (HasUnder zero) zero leaf-under 0 ns (each-left IsPlaced (spots zero 0 ns) [] p)
    all-under (suc k) ns p =
        let next = flat_map (children g old) ns in
        level-under k 0 ns (each-left IsPlaced (spots (suc k) 0 ns) (turn g old (suc k) next) p)
        (each-flat (HasUnder k) (children g old) ns (all-under k next (each-right IsPlaced (spots (suc k) 0 ns) (turn g old (suc k) next) p)))

    -- the key is below all pairs under the edge
    below-edge : (k : ℕ) → k < depth_of old → IsBelowAll g.compare key (under g old k (L k))
    below-edge k lt =
        let P : Pairs K → Type 0 = λ ps. IsBelowAll g.compare key ps in
        let at-level = content-under g old (lift (depth_of old - 1 - k) k) (deep-at g old sound.structure k lt) ∙ under-lift g old (depth_of old - 1 - k) k (root_level old) ∙ ap (flat_map (under g old k)) (edge-level g old sound.structure k lt) in
        each-left (λ p. g.compare key p.0 ≡ Less) (under g old k (L k)) (flat_map (under g old k) (drop 1 (level_above g old k))) (subst P at-level below)

    -- ---- the order

    abbrev Keyed : Spot → Type 0
    Keyed s = AreKeysInOrder g old s.above s.n

    abbrev Keyed' : Spot → Type 0
    Keyed' s = AreKeysInOrder g new s.above s.n

    edge-keyed : (k : ℕ) → suc k < depth_of old → Each (HasUnder k) (children g old (L (suc k))) → AreKeysInOrder g old (suc k) (L (suc k)) → AreKeysInOrder g new (suc k) (L (suc k))
    edge-keyed k lt h keys =
        let es = drop 1 (records_in old (L (suc k))) in
        let lt' : k < depth_of old = omega (arith, lt) in
        let H : List ℕ → Type 0 = λ ns. Each (HasUnder k) ns in
        let split = subst H (sons-edge k lt) h in
        let low = split.0.own refl in
        let same = parts-kept g old new k es (sides k (map g.child es) (rest-aside k lt) split.1) in
        let S : List (List ℕ) → Type 0 = λ xs. ArePartsInOrder g.compare [] (map (part_of g (under g old k)) xs) in
        let was-parts = subst S (rest-first (records_in old (L (suc k))) (edge-some g old sound.structure (suc k) lt)) keys in
        let U : ℕ → Type 0 = λ c. ArePartsInOrder g.compare (under g old k c) (map (part_of g (under g old k)) es) in
        let later = subst U (sym (edge-next g old sound.structure k lt)) was-parts.2 in
        let T : List (List ℕ) → Type 0 = λ xs. ArePartsInOrder g.compare [] (map (part_of g (under g new k)) xs) in
        let Q : List (K × Pairs K) → Type 0 = λ ps. ArePartsInOrder g.compare [] ps in
        let head : part_of g (under g new k) (index-set k lt).made ≡ (key, (key, body) ∷ drop 1 (under g old k (L k))) =
        ap (λ (x : K). (x, under g new k (g.child (index-set k lt).made))) (index-set k lt).keyed
        ∙ ap (λ (c : ℕ). (key, under g new k c)) ((index-set k lt).names ∙ sym (edge-next g old sound.structure k lt))
        ∙ ap (λ (ps : Pairs K). (key, ps)) low.is in
        subst T (sym (index-is k lt))
        (subst Q (sym (ap (λ (p : K × Pairs K). p ∷ map (part_of g (under g new k)) es) head ∙ ap (λ (ps : List (K × Pairs K)). (key, (key, body) ∷ drop 1 (under g old k (L k))) ∷ ps) same))
        (tt, lower-most g.compare total key body (under g old k (L k)) (below-edge k lt'), lower-parts g.compare total key body (under g old k (L k)) (map (part_of g (under g old k)) es) low.some (below-edge k lt') later))

    key-step : (k l m r : ℕ) → IsPlaced (record { left = l; n = m; right = r; above = suc k }) → Each (HasUnder k) (children g old m) → Keyed (record { left = l; n = m; right = r; above = suc k })
        → Keyed' (record { left = l; n = m; right = r; above = suc k })
    key-step k l m r p h keys =
        elim (cases_eq m (L (suc k))) [
          | inl e ↦
              (let P : ℕ → Type 0 = λ x. AreKeysInOrder g old (suc k) x in
              let P' : ℕ → Type 0 = λ x. AreKeysInOrder g new (suc k) x in
              let H : ℕ → Type 0 = λ x. Each (HasUnder k) (children g old x) in
              subst P' (sym e) (edge-keyed k p.within (subst H e h) (subst P e keys)))
          | inr aside ↦ keys-kept g old new k m (keeps _ p.right aside) (sides k (children g old m) (sons-aside k l m r p aside) h) keys
        ]

    keys-are : Each Keyed' (tree_turn g new)
    keys-are =
        let S : List Spot → Type 0 = λ ss. Each Keyed' ss in
        subst S (sym turn-is) (turn-step g old IsPlaced Keyed Keyed' HasUnder all-under (λ l m r p k. tt) key-step (depth_of old) (root_level old) placed sound.ordered.keys)

    -- ---- the content

    distinct : IsDistinct (L 0 ∷ drop 1 (level_above g old 0))
    distinct =
        let D : List ℕ → Type 0 = λ xs. IsDistinct xs in
        subst D (edge-leaves g old sound.structure deep) (last-distinct g old (depth_of old) (root_level old) (distinct-right (own_nodes old) (tree_nodes g old) sound.structure.levels.different))

    last-under : Each (HasUnder 0) (L 0 ∷ drop 1 (level_above g old 0))
    last-under =
        all-under 0 (L 0 ∷ drop 1 (level_above g old 0))
        (from-level g old (depth_of old - 1 - 0) 0 (deep-at g old sound.structure 0 deep) [] (L 0) (drop 1 (level_above g old 0)) (edge-level g old sound.structure 0 deep) IsPlaced placed)

    content-lower : IsLower (key, body) (tree_content g old) (tree_content g new)
    content-lower =
        let rest = drop 1 (level_above g old 0) in
        let was = ap (flat_map (pairs g old)) (edge-leaves g old sound.structure deep) in
        let same = same-flat g old new 0 rest (sides 0 rest distinct.0 last-under.1) in
        let is = ap (flat_map (pairs g new)) (leaves-are ∙ edge-leaves g old sound.structure deep) ∙ ap (λ (ps : Pairs K). pairs g new (L 0) ++ ps) same in
        let O : Pairs K → Type 0 = λ ps. IsLower (key, body) ps (tree_content g new) in
        let N : Pairs K → Type 0 = λ ps. IsLower (key, body) (pairs g old (L 0) ++ flat_map (pairs g old) rest) ps in
        subst O (sym was) (subst N (sym is) (lower-append (key, body) (pairs g old (L 0)) (pairs g new (L 0)) (flat_map (pairs g old) rest) (last-under.0.own refl)))

    same-length : length (tree_content g new) ≡ length (tree_content g old)
    same-length =
        let is = ap (λ (ps : Pairs K). length ps) content-lower.is in
        let some' = content-lower.some in
        let less = Rattle.std.proofs.Common.length-drop 1 (tree_content g old) in
        omega (arith, is, some', less)

    lower-sound : IsSound g new
    lower-sound =
        let R : Pairs K → Type 0 = λ ps. Rises g.compare ps in
        record {
          structure = structure;
          counts = record {
            records = ap (λ (h : Header). h.records) header-is ∙ sound.counts.records ∙ sym same-length;
            free = ap (λ (h : Header). h.free_nodes) header-is ∙ sound.counts.free ∙ sym free-is;
          };
          ordered = record { rises = subst R (sym content-lower.is) (lower-rises g.compare total key body (tree_content g old) below sound.ordered.rises); keys = keys-are };
        }

    -- ---- exact keys

    pub record HasFirst (k m : ℕ) : Type 0 where
      pub aside : m ≢ L k → first_key g new k m ≡ first_key g old k m
      pub own : m ≡ L k → first_key g new k m ≡ key

    first-aside : (k m : ℕ) → records_in new m ≡ records_in old m → first_key g new k m ≡ first_key g old k m
    first-aside zero m same = ap (λ (xs : List (List ℕ)). g.leaf_key (get_or xs 0 [])) same
    first-aside (suc k) m same = ap (λ (xs : List (List ℕ)). g.index_key (get_or xs 0 [])) same

    first-own : (k : ℕ) → k < depth_of old → first_key g new k (L k) ≡ key
    first-own zero lt = ap (λ (xs : List (List ℕ)). g.leaf_key (get_or xs 0 [])) leaf-set ∙ keyed
    first-own (suc k) lt = ap (λ (xs : List (List ℕ)). g.index_key (get_or xs 0 [])) (index-is k lt) ∙ (index-set k lt).keyed

    first-at : (k l m r : ℕ) → IsPlaced (record { left = l; n = m; right = r; above = k }) → HasFirst k m
    first-at k l m r p = record {
      aside = λ aside. first-aside k m (keeps _ p.right aside);
      own = λ e. (let P : ℕ → Type 0 = λ x. first_key g new k x ≡ key in subst P (sym e) (first-own k p.within));
    }

    all-first : (k : ℕ) (ns : List ℕ) → Each IsPlaced (turn g old (suc k) ns) → Each (HasFirst k) ns
    all-first k ns p = each-spots IsPlaced (HasFirst k) k (λ l m r q. first-at k l m r q) 0 ns (each-left IsPlaced (spots k 0 ns) (turn g old k (flat_map (children g old) ns)) p)

    exact-aside : (k : ℕ) (xs : List (List ℕ)) → Each (λ x. x ≢ L k) (map g.child xs) → Each (HasFirst k) (map g.child xs) → Each (λ e. g.compare (g.index_key e) (first_key g old k (g.child e)) ≡ Equal) xs
        → Each (λ e. g.compare (g.index_key e) (first_key g new k (g.child e)) ≡ Equal) xs
    exact-aside k [] o f h = tt
    exact-aside k (e ∷ xs) o f h = (ap (g.compare (g.index_key e)) (f.0.aside o.0) ∙ h.0, exact-aside k xs o.1 f.1 h.1)

    exact-edge : (k : ℕ) → suc k < depth_of old → Each (HasFirst k) (children g old (L (suc k))) → AreKeysExact g old (suc k) (L (suc k)) → AreKeysExact g new (suc k) (L (suc k))
    exact-edge k lt f exact =
        let es = drop 1 (records_in old (L (suc k))) in
        let F : List ℕ → Type 0 = λ ns. Each (HasFirst k) ns in
        let split = subst F (sons-edge k lt) f in
        let X : List (List ℕ) → Type 0 = λ xs. Each (λ e. g.compare (g.index_key e) (first_key g old k (g.child e)) ≡ Equal) xs in
        let Y : List (List ℕ) → Type 0 = λ xs. Each (λ e. g.compare (g.index_key e) (first_key g new k (g.child e)) ≡ Equal) xs in
        let was' = subst X (rest-first (records_in old (L (suc k))) (edge-some g old sound.structure (suc k) lt)) exact in
        let head : g.compare (g.index_key (index-set k lt).made) (first_key g new k (g.child (index-set k lt).made)) ≡ Equal =
        ap (λ (x : K). g.compare x (first_key g new k (g.child (index-set k lt).made))) (index-set k lt).keyed
        ∙ ap (λ (c : ℕ). g.compare key (first_key g new k c)) ((index-set k lt).names ∙ sym (edge-next g old sound.structure k lt))
        ∙ ap (g.compare key) (split.0.own refl)
        ∙ equal-key g.compare total key in
        subst Y (sym (index-is k lt)) (head, exact-aside k es (rest-aside k lt) split.1 was'.1)

    abbrev Exact : Spot → Type 0
    Exact s = AreKeysExact g old s.above s.n

    abbrev Exact' : Spot → Type 0
    Exact' s = AreKeysExact g new s.above s.n

    exact-step : (k l m r : ℕ) → IsPlaced (record { left = l; n = m; right = r; above = suc k }) → Each (HasFirst k) (children g old m) → Exact (record { left = l; n = m; right = r; above = suc k })
        → Exact' (record { left = l; n = m; right = r; above = suc k })
    exact-step k l m r p f exact =
        elim (cases_eq m (L (suc k))) [
          | inl e ↦
              (let P : ℕ → Type 0 = λ x. AreKeysExact g old (suc k) x in
              let P' : ℕ → Type 0 = λ x. AreKeysExact g new (suc k) x in
              let F : ℕ → Type 0 = λ x. Each (HasFirst k) (children g old x) in
              subst P' (sym e) (exact-edge k p.within (subst F e f) (subst P e exact)))
          | inr aside ↦
              (let Y : List (List ℕ) → Type 0 = λ xs. Each (λ e. g.compare (g.index_key e) (first_key g new k (g.child e)) ≡ Equal) xs in
              subst Y (sym (keeps _ p.right aside)) (exact-aside k (records_in old m) (sons-aside k l m r p aside) f exact))
        ]

    lower-exact : IsExact g old → IsExact g new
    lower-exact exact =
        let S : List Spot → Type 0 = λ ss. Each Exact' ss in
        subst S (sym turn-is) (turn-step g old IsPlaced Exact Exact' HasFirst all-first (λ l m r p k. tt) exact-step (depth_of old) (root_level old) placed exact)

    -- ---- all keys

    keys-first : (P : K → Type 0) → P key → (k : ℕ) → k < depth_of old → Each (λ e. P (key_at g k e)) (records_in old (L k)) → Each (λ e. P (key_at g k e)) (records_in new (L k))
    keys-first P own zero lt h =
        let Q : List (List ℕ) → Type 0 = λ xs. Each (λ e. P (g.leaf_key e)) xs in
        let was' = subst Q (rest-first (records_in old (L 0)) (edge-some g old sound.structure 0 lt)) h in
        subst Q (sym leaf-set) (subst P (sym keyed) own, was'.1)
    keys-first P own (suc k) lt h =
        let Q : List (List ℕ) → Type 0 = λ xs. Each (λ e. P (g.index_key e)) xs in
        let was' = subst Q (rest-first (records_in old (L (suc k))) (edge-some g old sound.structure (suc k) lt)) h in
        subst Q (sym (index-is k lt)) (subst P (sym (index-set k lt).keyed) own, was'.1)

    keys-at : (P : K → Type 0) → P key → (s : Spot) → IsPlaced s → Each (λ e. P (key_at g s.above e)) (records_in old s.n) → Each (λ e. P (key_at g s.above e)) (records_in new s.n)
    keys-at P own s p h =
        elim (cases_eq s.n (L s.above)) [
          | inl e ↦
              (let A : ℕ → Type 0 = λ x. Each (λ e'. P (key_at g s.above e')) (records_in old x) in
              let B : ℕ → Type 0 = λ x. Each (λ e'. P (key_at g s.above e')) (records_in new x) in
              subst B (sym e) (keys-first P own s.above p.within (subst A e h)))
          | inr aside ↦
              (let S : List (List ℕ) → Type 0 = λ xs. Each (λ e'. P (key_at g s.above e')) xs in
              subst S (sym (keeps s p.right aside)) h)
        ]

    keys-hold : (P : K → Type 0) → EachKey g P old → P key → EachKey g P new
    keys-hold P h own =
        let Q : List Spot → Type 0 = λ ss. Each (λ (s : Spot). Each (λ e. P (key_at g s.above e)) (records_in new s.n)) ss in
        let R : Spot → Type 0 = λ s. Each (λ e. P (key_at g s.above e)) (records_in old s.n) in
        subst Q (sym turn-is)
        (each-mono (λ (s : Spot). IsPlaced s × R s) (λ (s : Spot). Each (λ e. P (key_at g s.above e)) (records_in new s.n)) (tree_turn g old) (λ s f. keys-at P own s f.0 f.1)
        (each-both IsPlaced R (tree_turn g old) placed h))

    -- ---- the whole

    lower-keeps : KeepsTree g old new
    lower-keeps =
        let turned = ap (λ (ss : List Spot). length (map (λ (s : Spot). s.n) ss)) turn-is in
        let free = free-is in
        record {
          sound = lower-sound;
          exact = lower-exact;
          frame = frame-then g old mid new a.frame (frame-stays g mid new n v rs edit 0 kind-is height-is a.structure siblings);
          free = omega (arith, turned, free);
          rest = λ m other.
              (let tree = each-left (IsOther m) (tree_nodes g old) (tree_nodes g new) (each-right (IsOther m) (own_nodes old) (tree_nodes g old ++ tree_nodes g new) other) in
              let apart : L 0 ≢ m = edge-among g old sound.structure m 0 deep tree in
              stored.bytes m (λ e. apart (sym at ∙ sym e)) ∙ a.bytes m tree);
        }

    pub lower-least : HasLowerLeast g key body old new
    lower-least = record {
      keeps = lower-keeps;
      content = content-lower.is;
      keys = hold-keys_with g old new key keys-hold;
      header = header-is;
      turn = turn-is;
      free = free-is;
    }

-- ---- the calls

-- a record of the leaf's length in the place of its first one
pub least-fits : {K : Type 0} (g : Ghosts K) (v : Node) (made : List ℕ) → 0 < length v.records → Each (λ e. g.is_leaf e ≡ true) v.records → g.is_leaf made ≡ true
    → ((x y : List ℕ) → g.is_leaf x ≡ true → g.is_leaf y ≡ true → length x ≡ length y) → size_of v.records ≤ 496 → size_of (set v.records 0 made) ≤ 496
least-fits g v made some whole leaf even fits =
    let first = each-at (λ e. g.is_leaf e ≡ true) v.records 0 [] whole some in
    let same = even made (get_or v.records 0 []) leaf first in
    let size = size_of-set v.records 0 made some in
    omega (arith, size, same, fits)
