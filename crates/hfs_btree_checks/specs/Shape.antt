-- The first fault of a tree's shape: the number of the node that fails, and 0 where what fails is none of the levels' nodes.
use Rattle.std.specs.Prelude.{ℕ, ◌+◌, ◌*◌, Bool, true, false, not, ◌&&◌, ◌||◌, ◌==◌, nat_lt, nat_le, if◌then◌else◌, List, [], ◌∷◌, length, slice_index_or, Option, Some, None, Result, Ok, Err}
use Rattle.std.specs.List.{list_all, list_any}
use Rattle.std.specs.Option.{is_none}
use Rattle.hfs_btree.specs.declared.kind.NodeKind.{NodeKind}
use Rattle.hfs_btree.specs.declared.kind.NodeKind.TheVariants.{Index, Header, Map, Leaf}
use Rattle.hfs_btree.specs.declared.fault.NodeFault.{NodeFault}
use Rattle.hfs_btree.specs.declared.node.Node.{Node}
use Rattle.hfs_btree.specs.declared.header.Header as header
use Rattle.hfs_btree.specs.declared.key.Key.{Ghosts}
use Rattle.hfs_btree.specs.Tree.{Store, node_in, Spot, first_of, last_of, reads_at}
use Rattle.hfs_btree.specs.Header.{header_in, header_of, map_nodes, own_nodes, map_bytes, is_marked, free_nodes, depth_of, leaves, tree_content, tree_turn}

-- no fault where the test holds, else one of the whole tree
abbrev pub unless : Bool → Option ℕ
unless true = None
unless false = Some 0

-- the first fault, or where there is none the second
infixr 10 ◌or_else◌
abbrev pub ◌or_else◌ : Option ℕ → Option ℕ → Option ℕ
None or_else next = next
Some n or_else next = Some n

-- the number of the first element that fails the test, or whose number was met before
abbrev pub first_fault : {X : Type 0} → (X → Bool) → (X → ℕ) → (ℕ → Bool) → List X → Option ℕ
first_fault test number met [] = None
first_fault test number met (x ∷ xs) =
    if test x && not (met (number x)) then first_fault test number (λ n. (n == number x) || met n) xs else Some (number x)

-- ---- the header node

abbrev pub is_header_kind : NodeKind → Bool
is_header_kind Header = true
is_header_kind Index = false
is_header_kind Map = false
is_header_kind Leaf = false

-- a header node with three records, the first of at least 106 bytes
abbrev pub is_header_value : Node → Bool
is_header_value v = is_header_kind v.kind && (length v.records == 3) && nat_le 106 (length (slice_index_or v.records 0 []))

abbrev pub is_header_node : Result Node NodeFault → Bool
is_header_node (Ok v) = is_header_value v
is_header_node (Err e) = false

-- the header record is one of such a tree in a file of so many bytes
unfoldable pub is_header_record : {K : Type 0} → Ghosts K → ℕ → header.Header → Bool
is_header_record g size h = (h.node_size == 512) && (h.key_len == g.INDEX_KEY_LEN) && nat_le 1 h.nodes && nat_le (512 * h.nodes) size && nat_le h.depth 16

-- the header record that is a node's first
abbrev pub own_header : Node → header.Header
own_header v = header_of (slice_index_or v.records 0 [])

-- the node is a header node, and its header record that of such a tree
abbrev pub is_header_with : {K : Type 0} → Ghosts K → ℕ → Node → Bool
is_header_with g size v = is_header_value v && is_header_record g size (own_header v)

abbrev pub has_header : {K : Type 0} → Ghosts K → ℕ → Store → Bool
has_header g size nodes = is_header_node (node_in nodes 0) && is_header_record g size (header_in nodes)

-- ---- the node map

-- a node of the tree's other than the header node
abbrev pub is_within : Store → ℕ → Bool
is_within nodes n = nat_le 1 n && nat_lt n (header_in nodes).nodes

abbrev pub is_map_kind : NodeKind → Bool
is_map_kind Map = true
is_map_kind Index = false
is_map_kind Header = false
is_map_kind Leaf = false

-- a map node with a record
abbrev pub is_map_value : Node → Bool
is_map_value v = is_map_kind v.kind && nat_le 1 (length v.records)

abbrev pub is_map_result : Result Node NodeFault → Bool
is_map_result (Ok v) = is_map_value v
is_map_result (Err e) = false

unfoldable pub is_map_node : Store → ℕ → Bool
is_map_node nodes n = is_within nodes n && is_map_result (node_in nodes n)

-- the first node of the chain of map nodes that fails
abbrev pub chain_fault : Store → List ℕ → Option ℕ
chain_fault nodes ns = first_fault (is_map_node nodes) (λ n. n) (λ n. false) ns

-- the map nodes are different nodes, the map has a bit for each node, and header and map nodes are marked
unfoldable pub has_map : Store → Bool
has_map nodes =
    is_none (chain_fault nodes (map_nodes nodes)) && nat_le (header_in nodes).nodes (8 * length (map_bytes nodes)) && list_all (is_marked nodes) (own_nodes nodes)

-- ---- the levels

-- the kind of a node so many levels above the leaves
abbrev pub is_kind_at : ℕ → NodeKind → Bool
is_kind_at above Leaf = above == 0
is_kind_at above Index = nat_lt 0 above
is_kind_at above Header = false
is_kind_at above Map = false

-- a node of this kind and height, with these neighbours and with records of the form that its place asks
unfoldable pub is_node_at : {K : Type 0} → Ghosts K → Spot → Node → Bool
is_node_at g spot v =
    is_kind_at spot.above v.kind && (v.height == spot.above + 1) && nat_le 1 (length v.records) && (v.backward == spot.left) && (v.forward == spot.right)
    && list_all (reads_at g spot.above) v.records

abbrev pub is_result_at : {K : Type 0} → Ghosts K → Spot → Result Node NodeFault → Bool
is_result_at g spot (Ok v) = is_node_at g spot v
is_result_at g spot (Err e) = false

-- the node is one of the tree's, is what its place asks, and is marked
unfoldable pub is_right : {K : Type 0} → Ghosts K → Store → Spot → Bool
is_right g nodes spot = is_within nodes spot.n && is_result_at g spot (node_in nodes spot.n) && is_marked nodes spot.n

-- header and map nodes, which no level may have
abbrev pub is_own : Store → ℕ → Bool
is_own nodes n = list_any (λ m. n == m) (own_nodes nodes)

-- the first node of these that isn't right, or was met before
abbrev pub turn_fault : {K : Type 0} → Ghosts K → Store → (ℕ → Bool) → List Spot → Option ℕ
turn_fault g nodes met spots = first_fault (is_right g nodes) (λ spot. spot.n) met spots

-- the first node of the levels that fails, in their turn
unfoldable pub levels_fault : {K : Type 0} → Ghosts K → Store → Option ℕ
levels_fault g nodes = turn_fault g nodes (is_own nodes) (tree_turn g nodes)

-- ---- ends and counts

-- first and last leaf, and no root where there is no level
unfoldable pub has_ends : {K : Type 0} → Ghosts K → Store → Bool
has_ends g nodes =
    ((header_in nodes).first_leaf == first_of (leaves g nodes)) && ((header_in nodes).last_leaf == last_of (leaves g nodes))
    && (nat_lt 0 (depth_of nodes) || ((header_in nodes).root == 0))

-- the header record names these as the first and the last leaf, and no root where it has no level
abbrev pub names_ends : header.Header → ℕ → ℕ → Bool
names_ends h first last = (h.first_leaf == first) && (h.last_leaf == last) && (nat_lt 0 h.depth || (h.root == 0))

-- the number of leaf records and of free nodes
unfoldable pub has_counts : {K : Type 0} → Ghosts K → Store → Bool
has_counts g nodes = ((header_in nodes).records == length (tree_content g nodes)) && ((header_in nodes).free_nodes == free_nodes nodes)

-- ---- the first fault

-- the first fault of a tree in a file of so many bytes, except for the two counts
unfoldable pub structure_fault : {K : Type 0} → Ghosts K → ℕ → Store → Option ℕ
structure_fault g size nodes = unless (has_header g size nodes) or_else unless (has_map nodes) or_else levels_fault g nodes or_else unless (has_ends g nodes)

-- the first fault of a tree's shape
unfoldable pub shape_fault : {K : Type 0} → Ghosts K → ℕ → Store → Option ℕ
shape_fault g size nodes = structure_fault g size nodes or_else unless (has_counts g nodes)
