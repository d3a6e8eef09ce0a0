-- How many map nodes a new tree has, and how they hang on each other.
use Rattle.std.proofs.Common.{◌≡◌, ℕ, ◌+◌, ◌*◌, ◌<◌, ◌≤◌, arith}
use Rattle.std.specs.Prelude.{nat_lt}
use Rattle.std.proofs.lemmas.Bool.{lt-ltb, le-ltb, cond-true, cond-false, cond_both}
use Rattle.hfs_btree.specs.declared.header.Header.{Header}
use Rattle.hfs_format.specs.NewTrees.{map_node_count, empty_tree, one_leaf_tree, next_map_node, IsNewTree}

-- the header node's map and those of the map nodes have a bit for each node
pub long-map : (nodes : ℕ) → nodes ≤ 8 * (256 + 492 * map_node_count nodes)
unfolding map_node_count
long-map nodes = omega arith

-- header node, map nodes and a leaf are no more than all nodes
pub room-map_nodes : (nodes : ℕ) → 2 ≤ nodes → map_node_count nodes + 2 ≤ nodes
unfolding map_node_count
room-map_nodes nodes two = omega arith

pub room-no_leaf : (nodes : ℕ) → 1 ≤ nodes → map_node_count nodes + 1 ≤ nodes
unfolding map_node_count
room-no_leaf nodes some = omega arith

pub few-map_nodes : (nodes : ℕ) → nodes ≤ 4194304 → map_node_count nodes < 1067
unfolding map_node_count
few-map_nodes nodes few = omega arith

-- ---- the new trees

pub is_new_tree-empty : (key_len nodes : ℕ) → 1 ≤ nodes → nodes ≤ 4194304 → IsNewTree (empty_tree key_len nodes)
unfolding empty_tree
is_new_tree-empty key_len nodes some few = record { few = few; free = let room = room-no_leaf nodes some in omega arith }

pub is_new_tree-one_leaf : (key_len nodes records : ℕ) → 2 ≤ nodes → nodes ≤ 4194304 → IsNewTree (one_leaf_tree key_len nodes records)
unfolding one_leaf_tree
is_new_tree-one_leaf key_len nodes records two few = record { few = few; free = let room = room-map_nodes nodes two in omega arith }

-- ---- the next one

pub next_map_node-last : (tree : Header) → next_map_node tree (map_node_count tree.nodes) ≡ 0
unfolding next_map_node
next_map_node-last tree = cond-false _ _ _ (le-ltb (map_node_count tree.nodes) (map_node_count tree.nodes) (omega arith))

pub next_map_node-before : (tree : Header) (j : ℕ) → j < map_node_count tree.nodes → next_map_node tree j ≡ j + 1
unfolding next_map_node
next_map_node-before tree j lt = cond-true _ _ _ (lt-ltb j (map_node_count tree.nodes) lt)

pub next_map_node-most : (tree : Header) (j : ℕ) → next_map_node tree j ≤ j + 1
unfolding next_map_node
next_map_node-most tree j = cond_both (nat_lt j (map_node_count tree.nodes)) _ _ (λ n. n ≤ j + 1) (λ e. omega arith) (λ e. omega arith)
