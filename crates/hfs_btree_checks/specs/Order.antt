-- The first fault of a tree's order: the number of the node that fails, or of the pair.
use Rattle.std.specs.Prelude.{ℕ, zero, suc, ◌-◌, Bool, true, not, ◌&&◌, ◌==◌, if◌then◌else◌, List, [], ◌∷◌, map, length, replicate, slice_index_or, Option, Some, None}
use Rattle.std.specs.List.{list_all, flat_map}
use Rattle.std.specs.Option.{option_map}
use Rattle.std.specs.Ordering.{is_gt, is_lt}
use Rattle.hfs_btree.specs.declared.key.Key.{Ghosts}
use Rattle.hfs_fields.specs.First.{first_failing}
use Rattle.hfs_btree.specs.Pairs.{Order, Pairs}
use Rattle.hfs_btree.specs.Tree.{Store, records_in, under, Spot, spots, level_below, key_at}
use Rattle.hfs_btree.specs.Header.{leaves, tree_content, tree_turn}
use Rattle.hfs_btree_checks.specs.Shape.{◌or_else◌, shape_fault}
use Rattle.hfs_btree.specs.Sound.{part_of}

-- the first node in turn that fails the test
abbrev pub first_node : (Spot → Bool) → List Spot → Option ℕ
first_node test [] = None
first_node test (spot ∷ spots) = if test spot then first_node test spots else Some spot.n

-- ---- leaf keys

-- the pair's key is above each key before it
unfoldable pub is_above_all : {K : Type 0} → Order K → Pairs K → K × List ℕ → Bool
is_above_all cmp before p = list_all (λ earlier. is_lt (cmp earlier.0 p.0)) before

-- the number of the first pair, from 0 on, that doesn't rise above those before it
unfoldable pub rise_fault : {K : Type 0} → Order K → Pairs K → Option ℕ
rise_fault cmp ps = first_failing (is_above_all cmp) [] ps

-- the leaf of each pair of the content
unfoldable pub pair_leaves : {K : Type 0} → Ghosts K → Store → List ℕ
pair_leaves g nodes = flat_map (λ n. replicate (length (records_in nodes n)) n) (leaves g nodes)

-- the number of the first leaf pair, from 0 on, whose key doesn't rise above those before it
abbrev pub pair_order_fault : {K : Type 0} → Ghosts K → Store → Option ℕ
pair_order_fault g nodes = rise_fault g.compare (tree_content g nodes)

-- the first leaf with a key that doesn't rise above those before it, in this leaf or an earlier one
unfoldable pub leaf_order_fault : {K : Type 0} → Ghosts K → Store → Option ℕ
leaf_order_fault g nodes = option_map (λ i. slice_index_or (pair_leaves g nodes) i 0) (rise_fault g.compare (tree_content g nodes))

-- ---- index keys

-- each key is at most the keys of its own pairs and above those of the part before it
abbrev pub are_parts_in_order : {K : Type 0} → Order K → Pairs K → List (K × Pairs K) → Bool
are_parts_in_order cmp before [] = true
are_parts_in_order cmp before (part ∷ rest) =
    list_all (λ p. is_lt (cmp p.0 part.0)) before && list_all (λ p. not (is_gt (cmp part.0 p.0))) part.1 && are_parts_in_order cmp part.1 rest

-- the index keys of a node so many levels above the leaves are in order; a leaf has none
abbrev pub are_keys_in_order : {K : Type 0} → Ghosts K → Store → ℕ → ℕ → Bool
are_keys_in_order g nodes zero n = true
are_keys_in_order g nodes (suc k) n = are_parts_in_order g.compare [] (map (part_of g (under g nodes k)) (records_in nodes n))

unfoldable pub is_keyed : {K : Type 0} → Ghosts K → Store → Spot → Bool
is_keyed g nodes spot = are_keys_in_order g nodes spot.above spot.n

-- the first node of the levels, in their turn, whose index keys are not in order
unfoldable pub index_order_fault : {K : Type 0} → Ghosts K → Store → Option ℕ
index_order_fault g nodes = first_node (is_keyed g nodes) (tree_turn g nodes)

-- the first node of the level that index keys of node n lead to, whose own are not in order: n is so many levels
-- above the leaves, and that level is `at` levels above them
abbrev pub first_unkeyed : {K : Type 0} → Ghosts K → Store → ℕ → ℕ → ℕ → Option ℕ
first_unkeyed g nodes n above at = first_node (is_keyed g nodes) (spots at 0 (level_below g nodes (above - at) (n ∷ [])))

-- ---- order

-- the first node of the levels, in their turn, whose keys are not in order: the index nodes precede all leaves
unfoldable pub order_fault : {K : Type 0} → Ghosts K → Store → Option ℕ
order_fault g nodes = index_order_fault g nodes or_else leaf_order_fault g nodes

-- ---- the first fault

-- the first fault of a tree in a file of so many bytes: of its shape, or where it has its shape of its order
unfoldable pub tree_fault : {K : Type 0} → Ghosts K → ℕ → Store → Option ℕ
tree_fault g size nodes = shape_fault g size nodes or_else order_fault g nodes

-- ---- keys alone

-- each key of the node passes the test
unfoldable pub has_keys : {K : Type 0} → Ghosts K → Store → (K → Bool) → Spot → Bool
has_keys g nodes test spot = list_all (λ entry. test (key_at g spot.above entry)) (records_in nodes spot.n)

-- the first node of the levels, in their turn, with a key that the test refuses
unfoldable pub key_fault : {K : Type 0} → Ghosts K → Store → (K → Bool) → Option ℕ
key_fault g nodes test = first_node (has_keys g nodes test) (tree_turn g nodes)

-- the keys of a node's index records; a leaf has none
abbrev pub index_keys_at : {K : Type 0} → Ghosts K → Store → Spot → List K
index_keys_at g nodes spot = if spot.above == 0 then [] else map g.index_key (records_in nodes spot.n)

-- the keys of all index nodes, in the turn of levels
unfoldable pub index_keys : {K : Type 0} → Ghosts K → Store → List K
index_keys g nodes = flat_map (index_keys_at g nodes) (tree_turn g nodes)
