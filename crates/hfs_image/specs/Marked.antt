-- The nodes of a tree that decide: the header node, the chain of map nodes as far as it is one, and the nodes that the map marks.
use Rattle.std.specs.Prelude.{◌≡◌, ℕ, Bool, true, false, not, ◌&&◌, ◌||◌, ◌==◌, if◌then◌else◌, List, [], ◌∷◌, ◌++◌, map, slice_index_or, None}
use Rattle.hfs_fields.specs.Each.{Each}
use Rattle.hfs_btree.specs.declared.key.Key.{Ghosts}
use Rattle.hfs_btree.specs.Tree.{Store, node_in}
use Rattle.hfs_btree.specs.Header.{map_nodes, marks, is_marked, tree_content}
use Rattle.hfs_btree_checks.specs.Shape.{is_within, is_map_node, has_header, has_map, has_counts, structure_fault}
use Rattle.hfs_btree_checks.specs.Order.{index_keys, key_fault, index_order_fault, leaf_order_fault}

-- these, where the test holds
abbrev pub where_right : Bool → List ℕ → List ℕ
where_right test numbers = if test then numbers else []

-- ---- the nodes, by their numbers

-- of these nodes in a row, those from the first on that are map nodes which weren't met before, and the one that ends them
abbrev pub chain_of : Store → (ℕ → Bool) → List ℕ → List ℕ
chain_of nodes met [] = []
chain_of nodes met (n ∷ ns) =
    if is_within nodes n && not (met n) then n ∷ (if is_map_node nodes n then chain_of nodes (λ m. (m == n) || met m) ns else []) else []

-- the chain of map nodes as far as it is one
unfoldable pub map_chain : Store → List ℕ
map_chain nodes = chain_of nodes (λ n. false) (map_nodes nodes)

-- ---- the blocks in which they lie, where these are the blocks of the tree's file

-- those whose nodes are marked
abbrev pub marked_of : List Bool → List ℕ → List ℕ
marked_of [] numbers = []
marked_of (mark ∷ marks) [] = []
marked_of (mark ∷ marks) (n ∷ numbers) = if mark then n ∷ marked_of marks numbers else marked_of marks numbers

-- those of the chain of map nodes, and where the node map is right those that it marks
unfoldable pub needed_of_map : Store → List ℕ → List ℕ
needed_of_map nodes numbers = map (λ n. slice_index_or numbers n 0) (map_chain nodes) ++ where_right (has_map nodes) (marked_of (marks nodes) numbers)

-- that of the header node, and where it is right those that are needed of the map
unfoldable pub needed_of_tree : {K : Type 0} → Ghosts K → ℕ → Store → List ℕ → List ℕ
needed_of_tree g size nodes numbers = slice_index_or numbers 0 0 ∷ where_right (has_header g size nodes) (needed_of_map nodes numbers)

-- ---- what two trees have in common

-- node n reads the same in both
abbrev pub IsSameNode : Store → Store → ℕ → Type 0
IsSameNode old new n = node_in new n ≡ node_in old n

-- so do the header node, the chain of map nodes as far as it is one, and the nodes that the map marks
pub record AgreeOnMarked {K : Type 0} (g : Ghosts K) (size : ℕ) (old new : Store) : Type 0 where
  pub header : IsSameNode old new 0
  pub chain : has_header g size old ≡ true → Each (IsSameNode old new) (map_chain old)
  pub marked : has_header g size old ≡ true → has_map old ≡ true → (n : ℕ) → is_marked old n ≡ true → IsSameNode old new n

-- two trees have the same content, keys and order, and count the same
pub record HoldSameTree {K : Type 0} (g : Ghosts K) (old new : Store) : Type 0 where
  pub counts : has_counts g new ≡ has_counts g old
  pub content : tree_content g new ≡ tree_content g old
  pub index_keys : index_keys g new ≡ index_keys g old
  pub key_faults : (test : K → Bool) → key_fault g new test ≡ key_fault g old test
  pub index_order : index_order_fault g new ≡ index_order_fault g old
  pub leaf_order : leaf_order_fault g new ≡ leaf_order_fault g old

-- two trees need the same, have the same first fault of their shape, and where there is none they hold the same
pub record TreesAnswerSame {K : Type 0} (g : Ghosts K) (size : ℕ) (old new : Store) : Type 0 where
  pub needed : (numbers : List ℕ) → needed_of_tree g size new numbers ≡ needed_of_tree g size old numbers
  pub fault : structure_fault g size new ≡ structure_fault g size old
  pub held : structure_fault g size old ≡ None → HoldSameTree g old new

-- ---- the law

-- a node that its tree's map doesn't mark decides nothing: trees that agree on the others answer the same
abbrev pub MarkedNodesDecide : {K : Type 0} → Ghosts K → Type 0
MarkedNodesDecide g = (size : ℕ) (old new : Store) → AgreeOnMarked g size old new → TreesAnswerSame g size old new
