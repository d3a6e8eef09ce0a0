-- When a tree has its shape, is in order, and is sound.
use Rattle.std.specs.Prelude.{◌≡◌, ◌≢◌, ℕ, zero, suc, ◌+◌, ◌*◌, ◌<◌, ◌≤◌, ◌↔◌, true, List, [], ◌∷◌, ◌++◌, length, map, Ok, ⊤}
use Rattle.std.specs.declared.cmp.Ordering.TheVariants.{Equal}
use Rattle.hfs_btree.specs.declared.kind.NodeKind.TheVariants.{Header, Map}
use Rattle.hfs_btree.specs.declared.node.Node.{Node}
use Rattle.hfs_btree.specs.declared.key.Key.{Ghosts}
use Rattle.hfs_btree.specs.Pairs.{Order, Pairs, Rises, IsAtMost, IsAbove}
use Rattle.hfs_fields.specs.Each.{Each}
use Rattle.hfs_btree.specs.Tree.{Store, node_in, records_in, under, Spot, first_of, last_of, kind_at, reads_at}
use Rattle.hfs_btree.specs.Header.{header_in, record_in, map_nodes, own_nodes, map_bytes, is_marked, free_nodes, depth_of, leaves, tree_content, tree_turn, tree_nodes}

abbrev pub IsOther : ℕ → ℕ → Type 0
IsOther m n = n ≢ m

-- no number is there twice
abbrev pub IsDistinct : List ℕ → Type 0
IsDistinct [] = ⊤
IsDistinct (n ∷ ns) = Each (IsOther n) ns × IsDistinct ns

-- ---- shape

-- node 0 is a header node with its three records, and its header record is one of such a tree
pub record HasHeader {K : Type 0} (g : Ghosts K) (nodes : Store) : Type 0 where
  pub value : Node
  pub decodes : node_in nodes 0 ≡ Ok value
  pub kind : value.kind ≡ Header
  pub three : length value.records ≡ 3
  pub long : 106 ≤ length (record_in nodes 0 0)
  pub node_size : (header_in nodes).node_size ≡ 512
  pub key_len : (header_in nodes).key_len ≡ g.INDEX_KEY_LEN
  pub some : 1 ≤ (header_in nodes).nodes
  pub shallow : depth_of nodes ≤ 16

-- a node of the tree's other than the header node
abbrev pub IsWithin : Store → ℕ → Type 0
IsWithin nodes n = (1 ≤ n) × (n < (header_in nodes).nodes)

pub record IsMapNode (nodes : Store) (n : ℕ) : Type 0 where
  pub within : IsWithin nodes n
  pub value : Node
  pub decodes : node_in nodes n ≡ Ok value
  pub kind : value.kind ≡ Map
  pub some : 1 ≤ length value.records

abbrev pub IsMarked : Store → ℕ → Type 0
IsMarked nodes n = is_marked nodes n ≡ true

-- the map nodes are different nodes, the map has a bit for each node, and header and map nodes are marked
pub record HasMap (nodes : Store) : Type 0 where
  pub chain : Each (IsMapNode nodes) (map_nodes nodes)
  pub different : IsDistinct (map_nodes nodes)
  pub long : (header_in nodes).nodes ≤ 8 * length (map_bytes nodes)
  pub marked : Each (IsMarked nodes) (own_nodes nodes)

-- a node of the levels is what its place asks: a leaf or an index node of its height with records of its form, linked
-- to its neighbours, and marked
pub record IsRight {K : Type 0} (g : Ghosts K) (nodes : Store) (spot : Spot) : Type 0 where
  pub within : IsWithin nodes spot.n
  pub value : Node
  pub decodes : node_in nodes spot.n ≡ Ok value
  pub kind : value.kind ≡ kind_at spot.above
  pub height : value.height ≡ spot.above + 1
  pub some : 1 ≤ length value.records
  pub left : value.backward ≡ spot.left
  pub right : value.forward ≡ spot.right
  pub whole : Each (λ entry. reads_at g spot.above entry ≡ true) value.records
  pub marked : IsMarked nodes spot.n

-- each node of the levels is right, none is there twice, and none is a header or map node
pub record HasLevels {K : Type 0} (g : Ghosts K) (nodes : Store) : Type 0 where
  pub each : Each (IsRight g nodes) (tree_turn g nodes)
  pub different : IsDistinct (own_nodes nodes ++ tree_nodes g nodes)

-- the header record names the ends of the last level, and no root where there is none
pub record HasEnds {K : Type 0} (g : Ghosts K) (nodes : Store) : Type 0 where
  pub first : (header_in nodes).first_leaf ≡ first_of (leaves g nodes)
  pub last : (header_in nodes).last_leaf ≡ last_of (leaves g nodes)
  pub empty : depth_of nodes ≡ 0 → (header_in nodes).root ≡ 0

-- a tree's shape, except for the two numbers that `HasCounts` is about
pub record HasStructure {K : Type 0} (g : Ghosts K) (nodes : Store) : Type 0 where
  pub header : HasHeader g nodes
  pub map : HasMap nodes
  pub levels : HasLevels g nodes
  pub ends : HasEnds g nodes

-- the header record counts the leaf records and the free nodes
pub record HasCounts {K : Type 0} (g : Ghosts K) (nodes : Store) : Type 0 where
  pub records : (header_in nodes).records ≡ length (tree_content g nodes)
  pub free : (header_in nodes).free_nodes ≡ free_nodes nodes

-- the tree's nodes are within a file of so many bytes
abbrev pub IsWithinFile : ℕ → Store → Type 0
IsWithinFile size nodes = 512 * (header_in nodes).nodes ≤ size

-- the tree in a file of so many bytes has its shape
pub record IsShaped {K : Type 0} (g : Ghosts K) (size : ℕ) (nodes : Store) : Type 0 where
  pub structure : HasStructure g nodes
  pub counts : HasCounts g nodes
  pub within : IsWithinFile size nodes

-- ---- order

-- an index record's key, and the pairs under its child
abbrev pub part_of : {K : Type 0} → Ghosts K → (ℕ → Pairs K) → List ℕ → K × Pairs K
part_of g below entry = (g.index_key entry, below (g.child entry))

-- each key is at most the keys of its own pairs and above those of the part before it
abbrev pub ArePartsInOrder : {K : Type 0} → Order K → Pairs K → List (K × Pairs K) → Type 0
ArePartsInOrder cmp before [] = ⊤
ArePartsInOrder cmp before (part ∷ rest) = IsAbove cmp part.0 before × IsAtMost cmp part.0 part.1 × ArePartsInOrder cmp part.1 rest

-- the index keys of a node so many levels above the leaves are in order; a leaf has none
abbrev pub AreKeysInOrder : {K : Type 0} → Ghosts K → Store → ℕ → ℕ → Type 0
AreKeysInOrder g nodes zero n = ⊤
AreKeysInOrder g nodes (suc k) n = ArePartsInOrder g.compare [] (map (part_of g (under g nodes k)) (records_in nodes n))

-- the leaf keys strictly rise, and each index key is at most its child's least leaf key and above the greatest of the child before it
pub record IsOrdered {K : Type 0} (g : Ghosts K) (nodes : Store) : Type 0 where
  pub rises : Rises g.compare (tree_content g nodes)
  pub keys : Each (λ spot. AreKeysInOrder g nodes spot.above spot.n) (tree_turn g nodes)

-- ---- soundness

pub record IsSound {K : Type 0} (g : Ghosts K) (nodes : Store) : Type 0 where
  pub structure : HasStructure g nodes
  pub counts : HasCounts g nodes
  pub ordered : IsOrdered g nodes

-- the first key of a node so many levels above the leaves
abbrev pub first_key : {K : Type 0} → Ghosts K → Store → ℕ → ℕ → K
first_key g nodes zero n = g.leaf_key (record_in nodes n 0)
first_key g nodes (suc k) n = g.index_key (record_in nodes n 0)

-- each index key of a node is equal in order to its child's first key
abbrev pub AreKeysExact : {K : Type 0} → Ghosts K → Store → ℕ → ℕ → Type 0
AreKeysExact g nodes zero n = ⊤
AreKeysExact g nodes (suc k) n = Each (λ entry. g.compare (g.index_key entry) (first_key g nodes k (g.child entry)) ≡ Equal) (records_in nodes n)

abbrev pub IsExact : {K : Type 0} → Ghosts K → Store → Type 0
IsExact g nodes = Each (λ spot. AreKeysExact g nodes spot.above spot.n) (tree_turn g nodes)

-- a node that is marked, and is neither header or map node nor of the levels
pub record IsStray {K : Type 0} (g : Ghosts K) (nodes : Store) (n : ℕ) : Type 0 where
  pub marked : IsMarked nodes n
  pub other : Each (IsOther n) (own_nodes nodes ++ tree_nodes g nodes)

-- what no edit of a tree changes: the number of its nodes, its map nodes, the length of its map, and its stray nodes
pub record KeepsFrame {K : Type 0} (g : Ghosts K) (old new : Store) : Type 0 where
  pub file : length new ≡ length old
  pub nodes : (header_in new).nodes ≡ (header_in old).nodes
  pub map : map_nodes new ≡ map_nodes old
  pub map_length : length (map_bytes new) ≡ length (map_bytes old)
  pub stray : (n : ℕ) → IsStray g new n ↔ IsStray g old n
