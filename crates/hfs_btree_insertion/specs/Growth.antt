-- What the steps of an insertion make of a tree.
use Rattle.std.specs.Prelude.{◌≡◌, ◌≢◌, ℕ, zero, suc, ◌+◌, ◌-◌, ◌<◌, ◌≤◌, List, length}
use Rattle.std.specs.List.{prefix_len}
use Rattle.hfs_btree.specs.Node.{node_of, size_of}
use Rattle.hfs_btree.specs.declared.key.Key.{Ghosts}
use Rattle.hfs_btree.specs.Tree.{Store, records_in, records_of}
use Rattle.hfs_fields.specs.Each.{Each}
use Rattle.hfs_fields.specs.Members.{In}
use Rattle.hfs_btree.specs.Header.{header_in, depth_of, free_nodes, tree_nodes, tree_content}
use Rattle.hfs_btree.specs.Sound.{IsOther}
use Rattle.hfs_btree.specs.Search.{is_not_above, child_for, leaf_for, leaf_under, IsLowWay}
use Rattle.hfs_btree_edits.specs.Edits.{KeepsTree, level_above, node_for, IsFullFor}
use Rattle.hfs_btree_insertion.specs.Cut.{child_at}
use Rattle.hfs_btree_edits.specs.KeptKeys.{tree_keys, EachKey}

-- ---- room

-- how many bytes a record has that is added to a level: in a leaf so many, above the leaves an index record's
abbrev pub len_at : {K : Type 0} → Ghosts K → ℕ → ℕ → ℕ
len_at g len zero = len
len_at g len (suc k) = g.INDEX_KEY_LEN + 5

-- a node that has room for one more record of so many bytes
abbrev pub HasRoom : Store → ℕ → ℕ → Type 0
HasRoom nodes len n = size_of (records_in nodes n) + (len + 2) ≤ 496

-- the nodes on the way to the key have no room on so many levels from the leaves on, and the one above these has
pub record AreFull {K : Type 0} (g : Ghosts K) (nodes : Store) (key : K) (len full : ℕ) : Type 0 where
  pub most : full ≤ depth_of nodes
  pub each : (k : ℕ) → k < full → IsFullFor nodes (len_at g len k) (node_for g nodes key k)
  pub room : full < depth_of nodes → HasRoom nodes (len_at g len full) (node_for g nodes key full)

-- no index node on the way to the key has all of its keys above the key
abbrev pub IsLow : {K : Type 0} → Ghosts K → Store → K → Type 0
IsLow g nodes key = (j : ℕ) → suc j < depth_of nodes → 0 < prefix_len (is_not_above g key) (records_in nodes (leaf_under g nodes key j (header_in nodes).root))

-- ---- levels

-- counted from the leaves the levels are the same, and the way to any key goes by the same nodes, with the same records
pub record KeepsLevels {K : Type 0} (g : Ghosts K) (old new : Store) : Type 0 where
  pub levels : (k : ℕ) → k < depth_of old → level_above g new k ≡ level_above g old k
  pub way : (key : K) (k : ℕ) → k < depth_of old → node_for g new key k ≡ node_for g old key k
  pub records : (key : K) (k : ℕ) → k < depth_of old → records_in new (node_for g old key k) ≡ records_in old (node_for g old key k)
  pub size : (key : K) (k : ℕ) → k < depth_of old → size_of (records_in new (node_for g old key k)) ≡ size_of (records_in old (node_for g old key k))

-- no node left the levels
abbrev pub NodesStay : {K : Type 0} → Ghosts K → Store → Store → Type 0
NodesStay g old new = (x : ℕ) → Each (IsOther x) (tree_nodes g new) → Each (IsOther x) (tree_nodes g old)

-- each key of the new tree is one of the old tree
abbrev pub KeysStay : {K : Type 0} → Ghosts K → Store → Store → Type 0
KeysStay g old new = EachKey g (λ k. In k (tree_keys g old)) new

-- ---- the steps

-- a new root with one record is above the levels, which are the same
pub record HasRaised {K : Type 0} (g : Ghosts K) (old new : Store) : Type 0 where
  pub keeps : KeepsTree g old new
  pub others : NodesStay g old new
  pub keys : KeysStay g old new
  pub content : tree_content g new ≡ tree_content g old
  pub levels : KeepsLevels g old new
  pub depth : depth_of new ≡ suc (depth_of old)
  pub free : free_nodes new + 1 ≡ free_nodes old
  pub root : size_of (records_in new (header_in new).root) ≡ g.INDEX_KEY_LEN + 7

-- On one level, counted from the leaves, the node on the way to the key was cut in two; the others are the same. The part on the
-- way has room for one more record of so many bytes.
pub record HasCutLevel {K : Type 0} (g : Ghosts K) (key : K) (len a : ℕ) (old new : Store) : Type 0 where
  pub keeps : KeepsTree g old new
  pub others : NodesStay g old new
  pub keys : KeysStay g old new
  pub content : tree_content g new ≡ tree_content g old
  pub depth : depth_of new ≡ depth_of old
  pub free : free_nodes new + 1 ≡ free_nodes old
  pub levels : (k : ℕ) → k < depth_of old → k ≢ a → level_above g new k ≡ level_above g old k
  pub grown : length (level_above g new a) ≡ length (level_above g old a) + 1
  pub way : (k : ℕ) → k < a → node_for g new key k ≡ node_for g old key k
  pub records : (k : ℕ) → k < a → records_in new (node_for g old key k) ≡ records_in old (node_for g old key k)
  pub room : HasRoom new len (node_for g new key a)
  pub low : IsLow g new key

-- ---- words of the steps' contracts

-- the leaf for the key has room for one more record of so many bytes
abbrev pub HasLeafRoom : {K : Type 0} → Ghosts K → Store → K → ℕ → Type 0
HasLeafRoom g nodes key len = size_of (records_in nodes (leaf_for g nodes key)) + (len + 2) ≤ 496

-- the leaf for the key has no room for one more record of so many bytes
abbrev pub IsLeafFull : {K : Type 0} → Ghosts K → Store → K → ℕ → Type 0
IsLeafFull g nodes key len = IsFullFor nodes len (node_for g nodes key 0)

-- on the way from the root down to the key no index node has all of its keys above the key
abbrev pub IsRootLow : {K : Type 0} → Ghosts K → Store → K → Type 0
IsRootLow g nodes key = IsLowWay g nodes key (depth_of nodes - 1) (header_in nodes).root

-- the records of node n have so many bytes that it can be cut in two
abbrev pub IsCuttable : Store → ℕ → Type 0
IsCuttable nodes n = 354 < size_of (records_in nodes n)

-- the child that record q of node p names can be cut
abbrev pub IsChildCuttable : {K : Type 0} → Ghosts K → Store → ℕ → ℕ → Type 0
IsChildCuttable g nodes p q = IsCuttable nodes (child_at g nodes p q)

-- the node on the way to the key, so many levels above the leaves, can be cut
abbrev pub IsCuttableOnWay : {K : Type 0} → Ghosts K → Store → K → ℕ → Type 0
IsCuttableOnWay g nodes key above = IsCuttable nodes (node_for g nodes key above)

-- the node on the way to the key, so many levels above the leaves, has room for one more index record
abbrev pub HasRoomOnWay : {K : Type 0} → Ghosts K → Store → K → ℕ → Type 0
HasRoomOnWay g nodes key above = HasRoom nodes (g.INDEX_KEY_LEN + 5) (node_for g nodes key above)

-- the child for the key, of an index node with these bytes
abbrev pub IsChildFor : {K : Type 0} → Ghosts K → K → List ℕ → ℕ → Type 0
IsChildFor g key bytes = λ child. child ≡ child_for g key (records_of (node_of bytes))

-- a node with these bytes has a key that isn't above the key
abbrev pub HasLowKey : {K : Type 0} → Ghosts K → K → List ℕ → Type 0
HasLowKey g key bytes = 0 < prefix_len (is_not_above g key) (records_of (node_of bytes))
