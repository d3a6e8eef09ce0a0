-- What the cuts on the way to a key make of a tree.
use Rattle.std.specs.Prelude.{◌≡◌, ℕ, ◌+◌, ◌<◌, ◌≤◌, length}
use Rattle.hfs_btree.specs.Node.{size_of}
use Rattle.hfs_btree.specs.declared.key.Key.{Ghosts}
use Rattle.hfs_btree.specs.Tree.{Store, records_in}
use Rattle.hfs_btree.specs.Header.{depth_of, free_nodes, tree_content}
use Rattle.hfs_btree_edits.specs.Edits.{KeepsTree, level_above, node_for}
use Rattle.hfs_btree_insertion.specs.Growth.{len_at, HasRoom, IsLow, NodesStay, KeysStay}

-- the nodes on the way to the key can be cut on so many levels from the leaves on, and the one above these has room for an
-- index record
pub record AreCuttable {K : Type 0} (g : Ghosts K) (nodes : Store) (key : K) (full : ℕ) : Type 0 where
  pub within : full < depth_of nodes
  pub over : (k : ℕ) → k < full → 354 < size_of (records_in nodes (node_for g nodes key k))
  pub room : 0 < full → HasRoom nodes (g.INDEX_KEY_LEN + 5) (node_for g nodes key full)

-- On each level from a on below full the node on the way to the key was cut in two, and the last of these on the way has room for
-- what is added to it; the others are the same.
pub record HasCutDown {K : Type 0} (g : Ghosts K) (key : K) (len a full : ℕ) (old new : Store) : Type 0 where
  pub keeps : KeepsTree g old new
  pub others : NodesStay g old new
  pub keys : KeysStay g old new
  pub content : tree_content g new ≡ tree_content g old
  pub depth : depth_of new ≡ depth_of old
  pub free : free_nodes new + full ≡ free_nodes old + a
  pub above : (k : ℕ) → k < depth_of old → full ≤ k → level_above g new k ≡ level_above g old k
  pub below : (k : ℕ) → k < a → level_above g new k ≡ level_above g old k
  pub grown : (k : ℕ) → a ≤ k → k < full → length (level_above g new k) ≡ length (level_above g old k) + 1
  pub way : (k : ℕ) → k < a → node_for g new key k ≡ node_for g old key k
  pub records : (k : ℕ) → k < a → records_in new (node_for g old key k) ≡ records_in old (node_for g old key k)
  pub room : a < full → HasRoom new (len_at g len a) (node_for g new key a)
  pub none : full ≤ a → new ≡ old
  pub low : IsLow g new key
