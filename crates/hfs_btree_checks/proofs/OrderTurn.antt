-- The nodes of the levels in turn, whose index keys are in order or not.
use Rattle.std.proofs.Common.{◌≡◌, ℕ, zero, suc, ◌+◌, ◌-◌, ◌<◌, ◌≤◌, Bool, true, false, List, [], ◌∷◌, ◌++◌, length, map, get_or, drop, Option, Some, None, refl, sym, ap, ◌∙◌, subst, arith, inl, inr}
use Rattle.std.specs.Prelude.{◌&&◌, cond}
use Rattle.std.specs.List.{flat_map, list_all}
use Rattle.std.specs.Option.{is_none, is_some}
use Rattle.std.proofs.lemmas.Bool.{cases_Bool}
use Rattle.std.proofs.lemmas.List.{drop_more, drop_all, append-nil}
use Rattle.std.proofs.lemmas.List.Concat.{flat_map-append}
use Rattle.hfs_btree.specs.declared.key.Key.{Ghosts}
use Rattle.hfs_fields.specs.Each.{Each}
use Rattle.hfs_fields.proofs.ElementLemmas.{each-left, each-right}
use Rattle.hfs_btree.specs.Tree.{Store, Spot, records_in, records_of, children, spots, turn, level_below}
use Rattle.hfs_btree.specs.Header.{header_in, depth_of, root_level, tree_turn}
use Rattle.hfs_btree.specs.Sound.{IsRight, HasStructure}
use Rattle.hfs_btree_checks.specs.Shape.{◌or_else◌}
use Rattle.hfs_btree_checks.specs.Order.{first_node, are_keys_in_order, is_keyed, index_order_fault}
use Rattle.hfs_btree_checks.specs.Subtree.{IsSubtree, is_subtree_keyed}
use Rattle.hfs_btree.proofs.LevelLemmas.{records-some}

-- ---- nodes that are right

module _ {K : Type 0} (g : Ghosts K) (nodes : Store) where
  entries : (spot : Spot) (P : List ℕ → Type 0) (h : IsRight g nodes spot) → Each P h.value.records → Each P (records_in nodes spot.n)
  entries spot P h each = let Q : List (List ℕ) → Type 0 = λ es. Each P es in subst Q (sym (ap records_of h.decodes)) each

  leaf-trees : (left : ℕ) (ns : List ℕ) → Each (IsRight g nodes) (spots 0 left ns) → Each (IsSubtree g nodes 0) ns
  leaf-trees left [] h = tt
  leaf-trees left (n ∷ ns) h = ((records-some g nodes (IsRight g nodes) (λ spot k. k) _ h.0, entries _ _ h.0 h.0.whole), leaf-trees n ns h.1)

  index-trees : (k left : ℕ) (ns : List ℕ) → Each (IsRight g nodes) (spots (suc k) left ns) → Each (IsSubtree g nodes k) (flat_map (children g nodes) ns) → Each (IsSubtree g nodes (suc k)) ns
  index-trees k left [] h below = tt
  index-trees k left (n ∷ ns) h below = (
    (records-some g nodes (IsRight g nodes) (λ spot r. r) _ h.0, entries _ _ h.0 h.0.whole, each-left _ (children g nodes n) (flat_map (children g nodes) ns) below),
    index-trees k n ns h.1 (each-right _ (children g nodes n) (flat_map (children g nodes) ns) below),
  )

  subtrees : (k : ℕ) (ns : List ℕ) → Each (IsRight g nodes) (turn g nodes (suc k) ns) → Each (IsSubtree g nodes k) ns
  subtrees zero ns h = leaf-trees 0 ns (each-left _ (spots 0 0 ns) [] h)
  subtrees (suc k) ns h =
      index-trees k 0 ns (each-left _ (spots (suc k) 0 ns) (turn g nodes (suc k) (flat_map (children g nodes) ns)) h)
      (subtrees k (flat_map (children g nodes) ns) (each-right _ (spots (suc k) 0 ns) (turn g nodes (suc k) (flat_map (children g nodes) ns)) h))

  -- the root's tree
  pub root-tree : HasStructure g nodes → 0 < depth_of nodes → IsSubtree g nodes (depth_of nodes - 1) (header_in nodes).root
  root-tree h some =
      let up : depth_of nodes ≡ suc (depth_of nodes - 1) = omega arith in
      let P : ℕ → Type 0 = λ d. Each (IsRight g nodes) (turn g nodes d (root_level nodes)) in
      (subtrees (depth_of nodes - 1) (root_level nodes) (subst P up h.levels.each)).0

-- ---- all nodes

and-true : (b : Bool) → b ≡ (b && true)
and-true true = refl
and-true false = refl

and-four : (a b c d e : Bool) → c ≡ (d && e) → ((a && b) && c) ≡ ((a && d) && (b && e))
and-four true true c d e h = h
and-four true false c true e h = refl
and-four true false c false e h = refl
and-four false b c d e h = refl

all-append : {X : Type 0} (p : X → Bool) (xs ys : List X) → list_all p (xs ++ ys) ≡ (list_all p xs && list_all p ys)
all-append p [] ys = refl
all-append p (x ∷ xs) ys = ap (λ b. p x && b) (all-append p xs ys) ∙ and-five (p x) (list_all p xs) (list_all p ys)
  where
    and-five : (a b c : Bool) → (a && (b && c)) ≡ ((a && b) && c)
    and-five true b c = refl
    and-five false b c = refl

none-all : (test : Spot → Bool) (xs : List Spot) → is_none (first_node test xs) ≡ list_all test xs
none-all test [] = refl
none-all test (x ∷ xs) =
    elim (cases_Bool (test x)) [
      | inl e ↦ rw e (none-all test xs)
      | inr e ↦ rw e refl
    ]

module _ {K : Type 0} (g : Ghosts K) (nodes : Store) where
  all-spots : (k left : ℕ) (ns : List ℕ) → list_all (is_keyed g nodes) (spots k left ns) ≡ list_all (are_keys_in_order g nodes k) ns
  unfolding is_keyed
  all-spots k left [] = refl
  all-spots k left (n ∷ ns) = ap (λ b. are_keys_in_order g nodes k n && b) (all-spots k n ns)

  all-children : (k : ℕ) (ns : List ℕ) → list_all (is_subtree_keyed g nodes (suc k)) ns
      ≡ (list_all (are_keys_in_order g nodes (suc k)) ns && list_all (is_subtree_keyed g nodes k) (flat_map (children g nodes) ns))
  all-children k [] = refl
  all-children k (n ∷ ns) =
      and-four (are_keys_in_order g nodes (suc k) n) (list_all (is_subtree_keyed g nodes k) (children g nodes n)) _ (list_all (are_keys_in_order g nodes (suc k)) ns) (list_all (is_subtree_keyed g nodes k) (flat_map (children g nodes) ns)) (all-children k ns)
      ∙ ap (λ b. list_all (are_keys_in_order g nodes (suc k)) (n ∷ ns) && b) (sym (all-append (is_subtree_keyed g nodes k) (children g nodes n) (flat_map (children g nodes) ns)))

  all-leaves : (ns : List ℕ) → list_all (is_subtree_keyed g nodes 0) ns ≡ list_all (are_keys_in_order g nodes 0) ns
  all-leaves [] = refl
  all-leaves (n ∷ ns) = all-leaves ns

  all-turn : (k : ℕ) (ns : List ℕ) → list_all (is_subtree_keyed g nodes k) ns ≡ list_all (is_keyed g nodes) (turn g nodes (suc k) ns)
  all-turn zero ns =
      all-leaves ns ∙ and-true _ ∙ ap (λ b. b && true) (sym (all-spots 0 0 ns)) ∙ sym (all-append (is_keyed g nodes) (spots 0 0 ns) [])
  all-turn (suc k) ns =
      all-children k ns
      ∙ ap (λ b. b && list_all (is_subtree_keyed g nodes k) (flat_map (children g nodes) ns)) (sym (all-spots (suc k) 0 ns))
      ∙ ap (λ b. list_all (is_keyed g nodes) (spots (suc k) 0 ns) && b) (all-turn k (flat_map (children g nodes) ns))
      ∙ sym (all-append (is_keyed g nodes) (spots (suc k) 0 ns) (turn g nodes (suc k) (flat_map (children g nodes) ns)))

  pub keyed-root : 0 < depth_of nodes → is_subtree_keyed g nodes (depth_of nodes - 1) (header_in nodes).root ≡ is_none (index_order_fault g nodes)
  unfolding index_order_fault
  keyed-root some =
      let up : depth_of nodes ≡ suc (depth_of nodes - 1) = omega arith in
      and-true _
      ∙ all-turn (depth_of nodes - 1) (root_level nodes)
      ∙ ap (λ (d : ℕ). list_all (is_keyed g nodes) (turn g nodes d (root_level nodes))) (sym up)
      ∙ sym (none-all (is_keyed g nodes) (tree_turn g nodes))

  pub keyed-empty : depth_of nodes ≡ 0 → index_order_fault g nodes ≡ None
  unfolding index_order_fault
  keyed-empty none = ap (λ (d : ℕ). first_node (is_keyed g nodes) (turn g nodes d (root_level nodes))) none

-- ---- the first node

first-append : (test : Spot → Bool) (xs ys : List Spot) → first_node test (xs ++ ys) ≡ (first_node test xs or_else first_node test ys)
first-append test [] ys = refl
first-append test (x ∷ xs) ys =
    elim (cases_Bool (test x)) [
      | inl e ↦ rw e (first-append test xs ys)
      | inr e ↦ rw e refl
    ]

or-some : (a b : Option ℕ) → is_some a ≡ true → (a or_else b) ≡ a
or-some (Some n) b h = refl
or-some None b h = cc

or-none : (a b : Option ℕ) → is_some a ≡ false → (a or_else b) ≡ b
or-none None b h = refl
or-none (Some n) b h = cc

module _ {K : Type 0} (g : Ghosts K) (nodes : Store) where
  abbrev pub first : ℕ → List ℕ → Option ℕ
  first k ns = first_node (is_keyed g nodes) (spots k 0 ns)

  -- what stands to the left says nothing
  first-left : (k left : ℕ) (ns : List ℕ) → first_node (is_keyed g nodes) (spots k left ns) ≡ first k ns
  unfolding is_keyed
  first-left k left [] = refl
  first-left k left (n ∷ ns) = refl

  first-both : (k left : ℕ) (ms ns : List ℕ) → first_node (is_keyed g nodes) (spots k left (ms ++ ns)) ≡ (first_node (is_keyed g nodes) (spots k left ms) or_else first k ns)
  unfolding is_keyed
  first-both k left [] ns = first-left k left ns
  first-both k left (m ∷ ms) ns =
      elim (cases_Bool (are_keys_in_order g nodes k m)) [
        | inl e ↦ rw e (first-both k m ms ns)
        | inr e ↦ rw e refl
      ]

  first-one : (k n : ℕ) → first k (n ∷ []) ≡ cond (are_keys_in_order g nodes k n) None (Some n)
  unfolding is_keyed
  first-one k n = refl

  -- a node of the level itself
  pub level-one : (above k n : ℕ) (keyed : Bool) → above ≡ k → keyed ≡ are_keys_in_order g nodes above n → first k (level_below g nodes (above - k) (n ∷ [])) ≡ cond keyed None (Some n)
  level-one above k n keyed e is =
      let here : above - k ≡ 0 = omega arith in
      ap (λ (d : ℕ). first k (level_below g nodes d (n ∷ []))) here
      ∙ first-one k n
      ∙ ap (λ (b : Bool). cond b None (Some n)) (sym (is ∙ ap (λ (a : ℕ). are_keys_in_order g nodes a n) e))

  below-append : (k : ℕ) (ms ns : List ℕ) → level_below g nodes k (ms ++ ns) ≡ level_below g nodes k ms ++ level_below g nodes k ns
  below-append zero ms ns = refl
  below-append (suc k) ms ns = ap (level_below g nodes k) (flat_map-append (children g nodes) ms ns) ∙ below-append k (flat_map (children g nodes) ms) (flat_map (children g nodes) ns)

  -- the next level
  below-next : (k : ℕ) (ns : List ℕ) → flat_map (children g nodes) (level_below g nodes k ns) ≡ level_below g nodes (suc k) ns
  below-next zero ns = refl
  below-next (suc k) ns = below-next k (flat_map (children g nodes) ns)

  -- the first of a level below these records' children
  abbrev pub first-under : ℕ → ℕ → List (List ℕ) → Option ℕ
  first-under k down es = first k (level_below g nodes down (map g.child es))

  under-record : (k down : ℕ) (es : List (List ℕ)) (i : ℕ) → i < length es
      → first-under k down (drop i es) ≡ (first k (level_below g nodes down (g.child (get_or es i []) ∷ [])) or_else first-under k down (drop (i + 1) es))
  under-record k down es i lt =
      ap (first-under k down) (drop_more es i [] lt)
      ∙ ap (first k) (below-append down (g.child (get_or es i []) ∷ []) (map g.child (drop (i + 1) es)))
      ∙ first-both k 0 (level_below g nodes down (g.child (get_or es i []) ∷ [])) (level_below g nodes down (map g.child (drop (i + 1) es)))

  module _ (k down : ℕ) (es : List (List ℕ)) (i : ℕ) (lt : i < length es) (found : Option ℕ) (same : found ≡ first k (level_below g nodes down (g.child (get_or es i []) ∷ []))) where
    under-parts : first-under k down (drop i es) ≡ (found or_else first-under k down (drop (i + 1) es))
    under-parts = under-record k down es i lt ∙ ap (λ (o : Option ℕ). o or_else first-under k down (drop (i + 1) es)) (sym same)

    pub under-found : is_some found ≡ true → first-under k down (drop i es) ≡ found
    under-found is = under-parts ∙ or-some found _ is

    pub under-passed : is_some found ≡ false → first-under k down (drop i es) ≡ first-under k down (drop (i + 1) es)
    under-passed is = under-parts ∙ or-none found _ is

  nothing-below : (down : ℕ) → level_below g nodes down [] ≡ []
  nothing-below zero = refl
  nothing-below (suc k) = nothing-below k

  pub under-end : (k down : ℕ) (es : List (List ℕ)) (i : ℕ) → length es ≤ i → first-under k down (drop i es) ≡ None
  under-end k down es i past = ap (first-under k down) (drop_all i es past) ∙ ap (first k) (nothing-below down)

  pub under-node : (k down below n : ℕ) (es : List (List ℕ)) → down ≡ suc below → records_in nodes n ≡ es → first k (level_below g nodes down (n ∷ [])) ≡ first-under k below es
  under-node k down below n es e same =
      ap (λ (d : ℕ). first k (level_below g nodes d (n ∷ []))) e
      ∙ ap (λ (ns : List ℕ). first k (level_below g nodes below ns)) (append-nil (children g nodes n))
      ∙ ap (first-under k below) same

  -- ---- level by level

  -- the first of the levels from here on
  abbrev pub first-from : ℕ → List ℕ → Option ℕ
  first-from d ns = first_node (is_keyed g nodes) (turn g nodes d ns)

  pub from-level : (d k down : ℕ) (ns : List ℕ) → d ≡ suc k → first-from d (level_below g nodes down ns) ≡ (first k (level_below g nodes down ns) or_else first-from k (level_below g nodes (suc down) ns))
  from-level d k down ns e =
      ap (λ (j : ℕ). first-from j (level_below g nodes down ns)) e
      ∙ first-append (is_keyed g nodes) (spots k 0 (level_below g nodes down ns)) (turn g nodes k (flat_map (children g nodes) (level_below g nodes down ns)))
      ∙ ap (λ (ms : List ℕ). first k (level_below g nodes down ns) or_else first-from k ms) (below-next down ns)

  leaves-keyed : (left : ℕ) (ns : List ℕ) → first_node (is_keyed g nodes) (spots 0 left ns ++ []) ≡ None
  unfolding is_keyed
  leaves-keyed left [] = refl
  leaves-keyed left (n ∷ ns) = leaves-keyed n ns

  pub from-leaves : (d : ℕ) (ns : List ℕ) → d ≤ 1 → first-from d ns ≡ None
  from-leaves zero ns low = refl
  from-leaves (suc zero) ns low = leaves-keyed 0 ns
  from-leaves (suc (suc d)) ns low = absurd (omega arith)

  fault-is : index_order_fault g nodes ≡ first-from (depth_of nodes) (root_level nodes)
  unfolding index_order_fault
  fault-is = refl

  -- the whole, from the level d from the last on
  pub fault-from : (d : ℕ) → d ≡ depth_of nodes → index_order_fault g nodes ≡ first-from d (level_below g nodes (depth_of nodes - d) (root_level nodes))
  fault-from d e =
      let top : 0 ≡ depth_of nodes - d = omega arith in
      fault-is
      ∙ ap (λ (j : ℕ). first-from j (root_level nodes)) (sym e)
      ∙ ap (λ (j : ℕ). first-from d (level_below g nodes j (root_level nodes))) top

  module _ (d : ℕ) (some : 1 < d) (within : d ≤ depth_of nodes) (found : Option ℕ) (same : found ≡ first (d - 1) (level_below g nodes (depth_of nodes - d) (root_level nodes))) where
    level-parts : first-from d (level_below g nodes (depth_of nodes - d) (root_level nodes)) ≡ (found or_else first-from (d - 1) (level_below g nodes (depth_of nodes - (d - 1)) (root_level nodes)))
    level-parts =
        let lower : suc (depth_of nodes - d) ≡ depth_of nodes - (d - 1) = omega arith in
        from-level d (d - 1) (depth_of nodes - d) (root_level nodes) (omega arith)
        ∙ ap (λ (o : Option ℕ). o or_else first-from (d - 1) (level_below g nodes (suc (depth_of nodes - d)) (root_level nodes))) (sym same)
        ∙ ap (λ (j : ℕ). found or_else first-from (d - 1) (level_below g nodes j (root_level nodes))) lower

    pub level-found : is_some found ≡ true → first-from d (level_below g nodes (depth_of nodes - d) (root_level nodes)) ≡ found
    level-found is = level-parts ∙ or-some found _ is

    pub level-passed : is_some found ≡ false → first-from d (level_below g nodes (depth_of nodes - d) (root_level nodes)) ≡ first-from (d - 1) (level_below g nodes (depth_of nodes - (d - 1)) (root_level nodes))
    level-passed is = level-parts ∙ or-none found _ is
