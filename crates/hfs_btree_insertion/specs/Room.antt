-- A tree that has room for a new record on the way to its key.
use Rattle.std.specs.Prelude.{◌≡◌, ℕ, suc, ◌+◌, ◌-◌, ◌<◌, ◌≤◌, length}
use Rattle.hfs_btree.specs.declared.key.Key.{Ghosts}
use Rattle.std.specs.List.{prefix_len}
use Rattle.hfs_btree.specs.Tree.{Store, records_in}
use Rattle.hfs_btree.specs.Search.{is_not_above}
use Rattle.hfs_btree.specs.Header.{depth_of, free_nodes, tree_content}
use Rattle.hfs_btree_edits.specs.Edits.{KeepsTree, level_above, node_for, IsFullFor, GetsNode}
use Rattle.hfs_btree_insertion.specs.Growth.{len_at, HasRoom, IsLow, NodesStay, KeysStay}

-- a level has as many nodes as before, or one more where its node on the way to the key had no room, and where it is above level a, the
-- level below has got one
pub record HasGrownFor {K : Type 0} (g : Ghosts K) (key : K) (len a : ℕ) (old new : Store) (k : ℕ) : Type 0 where
  pub least : length (level_above g old k) ≤ length (level_above g new k)
  pub most : length (level_above g new k) ≤ length (level_above g old k) + 1
  pub full : GetsNode g old new k → IsFullFor old (len_at g len k) (node_for g old key k)
  pub below : (j : ℕ) → a ≤ j → suc j ≡ k → GetsNode g old new k → GetsNode g old new j

-- The node on the way to the key that is a levels above the leaves has room for what is added to it, where a record of so many bytes
-- is added to the leaf; the levels below it, and the content, are the same.
pub record HasMadeRoom {K : Type 0} (g : Ghosts K) (key : K) (len a : ℕ) (old new : Store) : Type 0 where
  pub keeps : KeepsTree g old new
  pub others : NodesStay g old new
  pub keys : KeysStay g old new
  pub content : tree_content g new ≡ tree_content g old
  pub levels : (k : ℕ) → a ≤ k → k < depth_of old → HasGrownFor g key len a old new k
  pub below : (k : ℕ) → k < a → k < depth_of old → level_above g new k ≡ level_above g old k
  pub least : depth_of old ≤ depth_of new
  pub most : depth_of new ≤ depth_of old + 1
  pub split : a < depth_of old → depth_of old < depth_of new → length (level_above g new (depth_of old - 1)) ≡ 2
  pub deep : a < depth_of new
  pub free : depth_of old + 1 ≤ free_nodes old → a ≤ free_nodes new
  pub low : IsLow g new key
  pub room : HasRoom new (len_at g len a) (node_for g new key a)
  pub records : (k : ℕ) → k < a → k < depth_of old → records_in new (node_for g new key k) ≡ records_in old (node_for g old key k)

-- no index node on the way to the key that is higher above the leaves than so many levels has all of its keys above the key
abbrev pub IsLowAbove : {K : Type 0} → Ghosts K → Store → K → ℕ → Type 0
IsLowAbove g nodes key above = (k : ℕ) → above < k → k < depth_of nodes → 0 < prefix_len (is_not_above g key) (records_in nodes (node_for g nodes key k))

-- the search for the key ends in leaf n, and no index key on the way is to be lowered
pub record IsLowLeaf {K : Type 0} (g : Ghosts K) (nodes : Store) (key : K) (n : ℕ) : Type 0 where
  pub at : n ≡ node_for g nodes key 0
  pub low : IsLowAbove g nodes key 0
