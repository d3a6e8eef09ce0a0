-- A tree is in order, and sound, exactly where it has no fault.
use Rattle.std.proofs.Common.{◌≡◌, ℕ, zero, suc, Bool, false, List, [], ◌∷◌, map, Option, Some, None, refl, ap, inl, inr}
use Rattle.std.specs.Prelude.{◌&&◌, ◌↔◌, not}
use Rattle.std.specs.Bool.{Decides}
use Rattle.std.specs.List.{list_all}
use Rattle.std.specs.Option.{option_map}
use Rattle.std.specs.declared.cmp.Ordering.{Ordering}
use Rattle.std.specs.declared.cmp.Ordering.TheVariants.{Less}
use Rattle.std.specs.Ordering.{is_gt, is_lt}
use Rattle.std.proofs.lemmas.Bool.{and_parts, and_from, cases_Bool, not-true, not_from_false}
use Rattle.hfs_btree.specs.declared.key.Key.{Ghosts}
use Rattle.hfs_btree.specs.Pairs.{Order, Pairs, Rises, IsAtMost, IsAbove}
use Rattle.hfs_fields.specs.Each.{Each}
use Rattle.hfs_btree.specs.Tree.{Store, Spot, records_in, under}
use Rattle.hfs_btree.specs.Header.{tree_content, tree_turn}
use Rattle.hfs_btree_checks.specs.Shape.{shape_fault}
use Rattle.hfs_btree_checks.proofs.ShapeLawLemmas.{shape-law, first-none, both-none}
use Rattle.hfs_fields.proofs.ScanLemmas.{Later, passes_from_none, none_from_passes, later_from_passes, passes_from_later, all_decides}
use Rattle.hfs_btree.specs.Sound.{HasStructure, HasCounts, IsWithinFile, IsShaped, part_of, ArePartsInOrder, AreKeysInOrder, IsOrdered, IsSound}
use Rattle.hfs_btree_checks.specs.Order.{first_node, is_above_all, rise_fault, leaf_order_fault, are_parts_in_order, are_keys_in_order, is_keyed, index_order_fault, order_fault, tree_fault}
use Rattle.hfs_fields.proofs.OrderLemmas.{less-by}

at-most-by : (o : Ordering) → Decides (not (is_gt o)) (is_gt o ≡ false)
at-most-by o = (λ h. not-true (is_gt o) h, λ h. not_from_false (is_gt o) h)

-- ---- leaf keys

module _ {K : Type 0} (cmp : Order K) where
  abbrev IsLess : K × List ℕ → K × List ℕ → Type 0
  IsLess p q = cmp p.0 q.0 ≡ Less

  above-all : (before : Pairs K) (p : K × List ℕ) → Decides (is_above_all cmp before p) (Each (λ earlier. IsLess earlier p) before)
  unfolding is_above_all
  above-all before p = all_decides (λ earlier. is_lt (cmp earlier.0 p.0)) (λ earlier. IsLess earlier p) (λ earlier. less-by (cmp earlier.0 p.0)) before

  rises-of : (ps : Pairs K) → Later IsLess ps → Rises cmp ps
  rises-of [] h = tt
  rises-of (p ∷ ps) h = (h.0, rises-of ps h.1)

  later-of : (ps : Pairs K) → Rises cmp ps → Later IsLess ps
  later-of [] h = tt
  later-of (p ∷ ps) h = (h.0, later-of ps h.1)

  -- keys rise exactly where none fails
  pub rise-law : (ps : Pairs K) → (rise_fault cmp ps ≡ None) ↔ Rises cmp ps
  unfolding rise_fault
  rise-law ps = (
    λ is. rises-of ps (later_from_passes (is_above_all cmp) IsLess above-all [] ps (passes_from_none (is_above_all cmp) [] ps is)).1,
    λ h. none_from_passes (is_above_all cmp) [] ps (passes_from_later (is_above_all cmp) IsLess above-all [] ps tt (later-of ps h)),
  )

map-none : {X Y : Type 0} (f : X → Y) (o : Option X) → option_map f o ≡ None → o ≡ None
map-none f None h = refl
map-none f (Some x) h = absurd (let no = h in cc)

-- the leaf keys rise exactly where no leaf fails
pub leaf-order-law : {K : Type 0} (g : Ghosts K) (nodes : Store) → (leaf_order_fault g nodes ≡ None) ↔ Rises g.compare (tree_content g nodes)
unfolding leaf_order_fault
leaf-order-law g nodes =
    let law = rise-law g.compare (tree_content g nodes) in (
      λ is. law.0 (map-none _ (rise_fault g.compare (tree_content g nodes)) is),
      λ h. ap (option_map _) (law.1 h),
    )

-- ---- index keys

-- no node fails exactly where each passes
pub first_node-law : (test : Spot → Bool) (P : Spot → Type 0) → ((spot : Spot) → Decides (test spot) (P spot)) → (spots : List Spot) → (first_node test spots ≡ None) ↔ Each P spots
first_node-law test P decides spots = (none-first spots, first-none spots)
  where
    none-first : (spots : List Spot) → first_node test spots ≡ None → Each P spots
    none-first [] h = tt
    none-first (spot ∷ spots) h =
        elim (cases_Bool (test spot)) [
          | inl passes ↦ ((decides spot).0 passes, none-first spots (rw passes at h))
          | inr fails ↦ absurd (let wrong = rw fails at h in cc)
        ]

    first-none : (spots : List Spot) → Each P spots → first_node test spots ≡ None
    first-none [] h = refl
    first-none (spot ∷ spots) h = rw ((decides spot).1 h.0) (first-none spots h.1)

module _ {K : Type 0} (cmp : Order K) where
  pub above-by : (key : K) (ps : Pairs K) → Decides (list_all (λ p. is_lt (cmp p.0 key)) ps) (IsAbove cmp key ps)
  above-by key ps = all_decides (λ p. is_lt (cmp p.0 key)) (λ p. cmp p.0 key ≡ Less) (λ p. less-by (cmp p.0 key)) ps

  pub least-by : (key : K) (ps : Pairs K) → Decides (list_all (λ p. not (is_gt (cmp key p.0))) ps) (IsAtMost cmp key ps)
  least-by key ps = all_decides (λ p. not (is_gt (cmp key p.0))) (λ p. is_gt (cmp key p.0) ≡ false) (λ p. at-most-by (cmp key p.0)) ps

  pub parts-by : (before : Pairs K) (parts : List (K × Pairs K)) → Decides (are_parts_in_order cmp before parts) (ArePartsInOrder cmp before parts)
  parts-by before [] = (λ _. tt, λ _. refl)
  parts-by before (part ∷ rest) =
      let above = above-by part.0 before in
      let least = least-by part.0 part.1 in
      let next = parts-by part.1 rest in (
        λ h.
            let last = and_parts (list_all (λ p. is_lt (cmp p.0 part.0)) before && list_all (λ p. not (is_gt (cmp part.0 p.0))) part.1) (are_parts_in_order cmp part.1 rest) h in
            let two = and_parts (list_all (λ p. is_lt (cmp p.0 part.0)) before) (list_all (λ p. not (is_gt (cmp part.0 p.0))) part.1) last.0 in
            (above.0 two.0, least.0 two.1, next.0 last.1),
        λ h. and_from _ _ (and_from _ _ (above.1 h.0) (least.1 h.1)) (next.1 h.2),
      )

module _ {K : Type 0} (g : Ghosts K) (nodes : Store) where
  keys-by : (above n : ℕ) → Decides (are_keys_in_order g nodes above n) (AreKeysInOrder g nodes above n)
  keys-by zero n = (λ _. tt, λ _. refl)
  keys-by (suc k) n = parts-by g.compare [] (map (part_of g (under g nodes k)) (records_in nodes n))

  pub keyed-by : (spot : Spot) → Decides (is_keyed g nodes spot) (AreKeysInOrder g nodes spot.above spot.n)
  unfolding is_keyed
  keyed-by spot = keys-by spot.above spot.n

  -- the index keys are in order exactly where no node fails
  pub index-order-law : (index_order_fault g nodes ≡ None) ↔ Each (λ spot. AreKeysInOrder g nodes spot.above spot.n) (tree_turn g nodes)
  unfolding index_order_fault
  index-order-law = first_node-law (is_keyed g nodes) (λ spot. AreKeysInOrder g nodes spot.above spot.n) keyed-by (tree_turn g nodes)

-- ---- the whole

module _ {K : Type 0} (g : Ghosts K) (nodes : Store) where
  -- a tree is in order exactly where it has no fault
  pub order-law : (order_fault g nodes ≡ None) ↔ IsOrdered g nodes
  unfolding order_fault
  order-law = (
    λ is.
        let both = first-none (index_order_fault g nodes) (leaf_order_fault g nodes) is in
        record { rises = (leaf-order-law g nodes).0 both.1; keys = (index-order-law g nodes).0 both.0 },
    λ h. both-none _ _ ((index-order-law g nodes).1 h.keys) ((leaf-order-law g nodes).1 h.rises),
  )

-- the parts of a sound tree
pub sound-of : {K : Type 0} (g : Ghosts K) (nodes : Store) → HasStructure g nodes → HasCounts g nodes → IsOrdered g nodes → IsSound g nodes
sound-of g nodes structure counts ordered = record { structure = structure; counts = counts; ordered = ordered }

-- a tree is sound and within its file exactly where it has no fault
pub sound-law : {K : Type 0} (g : Ghosts K) (size : ℕ) (nodes : Store) → (tree_fault g size nodes ≡ None) ↔ (IsSound g nodes × IsWithinFile size nodes)
unfolding tree_fault
sound-law g size nodes = (
  λ is.
      let both = first-none (shape_fault g size nodes) (order_fault g nodes) is in
      let shaped = (shape-law g size nodes).0 both.0 in
      (sound-of g nodes shaped.structure shaped.counts ((order-law g nodes).0 both.1), shaped.within),
  λ h.
      let shaped : IsShaped g size nodes = record { structure = h.0.structure; counts = h.0.counts; within = h.1 } in
      both-none _ _ ((shape-law g size nodes).1 shaped) ((order-law g nodes).1 h.0.ordered),
)
