-- What writes of nodes make of a tree's file.
use Rattle.std.specs.Prelude.{◌≡◌, ◌≢◌, ℕ, ◌+◌, ◌-◌, ◌≤◌, List, [], Ok, length, slice_set, slice_index_or, false, ◌↔◌, IsOk}
use Rattle.hfs_btree.specs.Laid.{IsClear, IsZeroFrom}
use Rattle.hfs_btree.specs.declared.kind.NodeKind.TheVariants.{Header as HeaderKind}
use Rattle.hfs_btree.specs.declared.node.Node.{Node}
use Rattle.hfs_btree.specs.declared.header.Header.{Header}
use Rattle.hfs_btree.specs.declared.key.Key.{Ghosts}
use Rattle.hfs_fields.specs.Each.{Each}
use Rattle.hfs_btree.specs.Tree.{Store, Spot, node_in, forward_of}
use Rattle.hfs_btree.specs.Header.{header_of, header_in, record_in, free_nodes, tree_turn, tree_content, map_nodes, own_nodes, map_bytes, marks}
use Rattle.hfs_btree.specs.Sound.{IsOther, IsMapNode, IsSound, IsExact, IsStray}

-- the bytes of node n
abbrev pub bytes_in : Store → ℕ → List ℕ
bytes_in nodes n = slice_index_or nodes n []

-- node n decodes
abbrev pub Decodes : Store → ℕ → Type 0
Decodes nodes n = IsOk (node_in nodes n)

-- a link names no node, as 0, or one that decodes
abbrev pub IsLink : Store → ℕ → Type 0
IsLink nodes n = n ≢ 0 → Decodes nodes n

-- ---- one node

-- the node is the same
abbrev pub IsSame : Store → Store → ℕ → Type 0
IsSame old new n = node_in new n ≡ node_in old n

-- its link to the right is the same
abbrev pub IsOnward : Store → Store → ℕ → Type 0
IsOnward old new n = forward_of (node_in new n) ≡ forward_of (node_in old n)

-- node n was written, with zeros where it has nothing, and no other
pub record HasStored (n : ℕ) (value : Node) (old new : Store) : Type 0 where
  pub len : length new ≡ length old
  pub here : node_in new n ≡ Ok value
  pub clear : IsClear value.records (bytes_in new n)
  pub rest : (m : ℕ) → m ≢ n → node_in new m ≡ node_in old m
  pub bytes : (m : ℕ) → m ≢ n → bytes_in new m ≡ bytes_in old m

-- a node has another backward link
pub record HasBackward (n left : ℕ) (old new : Store) : Type 0 where
  pub node : Node
  pub was : node_in old n ≡ Ok node
  pub stored : HasStored n (record node { backward = left }) old new

-- ---- the header record

-- the header record has these fields, and nothing else has changed
pub record HasHeaderPut (header : Header) (old new : Store) : Type 0 where
  pub head : Node
  pub entry : List ℕ
  pub was : node_in old 0 ≡ Ok head
  pub stored : HasStored 0 (record head { records = slice_set head.records 0 entry }) old new
  pub long : length entry ≡ length (slice_index_or head.records 0 [])
  pub some : 1 ≤ length head.records
  pub fields : header_of entry ≡ header

-- the number of the tree's nodes and its node map are the same
pub record KeepsHead (old new : Store) : Type 0 where
  pub file : length new ≡ length old
  pub count : (header_in new).nodes ≡ (header_in old).nodes
  pub marks : marks new ≡ marks old
  pub map : map_nodes new ≡ map_nodes old
  pub bytes : map_bytes new ≡ map_bytes old

-- ---- nodes that are added and freed

-- a free node was marked as in use, so that it is a stray one; the tree is the same, and besides header and map nothing has changed
pub record HasClaimed {K : Type 0} (g : Ghosts K) (n : ℕ) (old new : Store) : Type 0 where
  pub sound : IsSound g new
  pub exact : IsExact g old → IsExact g new
  pub content : tree_content g new ≡ tree_content g old
  pub len : length new ≡ length old
  pub header : header_in new ≡ record (header_in old) { free_nodes = (header_in old).free_nodes - 1 }
  pub free : free_nodes new + 1 ≡ free_nodes old
  pub turn : tree_turn g new ≡ tree_turn g old
  pub nodes : Each (λ (spot : Spot). node_in new spot.n ≡ node_in old spot.n) (tree_turn g old)
  pub map : map_nodes new ≡ map_nodes old
  pub map_length : length (map_bytes new) ≡ length (map_bytes old)
  pub stray : IsStray g new n
  pub fresh : IsStray g old n → ⊥
  pub strays : (m : ℕ) → m ≢ n → IsStray g new m ↔ IsStray g old m
  pub bytes : (m : ℕ) → Each (IsOther m) (own_nodes old) → bytes_in new m ≡ bytes_in old m

-- node n was a stray one; its mark is clear, its bytes are zeros, and one more node is counted as free; besides header, map and
-- node n nothing has changed
pub record IsReleased {K : Type 0} (g : Ghosts K) (n : ℕ) (old new : Store) : Type 0 where
  pub len : length new ≡ length old
  pub stray : IsStray g old n
  pub value : Node
  pub decodes : node_in new 0 ≡ Ok value
  pub kind : value.kind ≡ HeaderKind
  pub three : length value.records ≡ 3
  pub long : length (record_in new 0 0) ≡ length (record_in old 0 0)
  pub header : header_in new ≡ record (header_in old) { free_nodes = (header_in old).free_nodes + 1 }
  pub onward : IsOnward old new 0
  pub onwards : Each (IsOnward old new) (map_nodes old)
  pub maps : Each (IsMapNode new) (map_nodes old)
  pub map_length : length (map_bytes new) ≡ length (map_bytes old)
  pub marks : marks new ≡ slice_set (marks old) n false
  pub blank : IsZeroFrom 0 512 (bytes_in new n)
  pub rest : (m : ℕ) → m ≢ n → Each (IsOther m) (own_nodes old) → node_in new m ≡ node_in old m
  pub bytes : (m : ℕ) → m ≢ n → Each (IsOther m) (own_nodes old) → bytes_in new m ≡ bytes_in old m
