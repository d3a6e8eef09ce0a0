-- Index keys that are lowered on the way to a new key.
use Rattle.std.specs.Prelude.{◌≡◌, true, false, ℕ, ◌<◌, List, [], Ok, slice_index_or, slice_set}
use Rattle.std.specs.List.{prefix_len}
use Rattle.std.specs.Ordering.{is_gt}
use Rattle.hfs_btree.specs.declared.node.Node.{Node}
use Rattle.hfs_btree.specs.Node.{size_of}
use Rattle.hfs_btree.specs.declared.key.Key.{Ghosts}
use Rattle.hfs_btree.specs.Tree.{Store, node_in, records_in}
use Rattle.hfs_btree.specs.Header.{header_in, record_in, depth_of, tree_turn, tree_content}
use Rattle.hfs_btree.specs.Search.{is_not_above}
use Rattle.hfs_btree_edits.specs.Stored.{HasStored}
use Rattle.hfs_btree_edits.specs.Edits.{KeepsTree, level_above, node_for}
use Rattle.hfs_btree_edits.specs.KeptKeys.{EachKey, IsKeyOr}

-- the first record of node n has got this key, and names the same child
pub record HasFirstKey {K : Type 0} (g : Ghosts K) (n : ℕ) (key : K) (old new : Store) : Type 0 where
  pub node : Node
  pub was : node_in old n ≡ Ok node
  pub made : List ℕ
  pub index : g.is_index made ≡ true
  pub keyed : g.index_key made ≡ key
  pub names : g.child made ≡ g.child (slice_index_or node.records 0 [])
  pub stored : HasStored n (record node { records = slice_set node.records 0 made }) old new

-- so it was where its first key was above this one; else nothing has changed
pub record HasLowFirst {K : Type 0} (g : Ghosts K) (n : ℕ) (key : K) (old new : Store) : Type 0 where
  pub lowered : is_gt (g.compare (g.index_key (record_in old n 0)) key) ≡ true → HasFirstKey g n key old new
  pub same : is_gt (g.compare (g.index_key (record_in old n 0)) key) ≡ false → new ≡ old

-- No index node on the way to the key that is higher above the leaves than so many levels has all of its keys above the key:
-- where that was so, the node's first key is the key. Content, levels and the way are the same.
pub record HasLowered {K : Type 0} (g : Ghosts K) (key : K) (above : ℕ) (old new : Store) : Type 0 where
  pub keeps : KeepsTree g old new
  pub content : tree_content g new ≡ tree_content g old
  pub keys : EachKey g (IsKeyOr g old key) new
  pub header : header_in new ≡ header_in old
  pub turn : tree_turn g new ≡ tree_turn g old
  pub levels : (k : ℕ) → level_above g new k ≡ level_above g old k
  pub way : (k : ℕ) → node_for g new key k ≡ node_for g old key k
  pub size : (n : ℕ) → size_of (records_in new n) ≡ size_of (records_in old n)
  pub low : (k : ℕ) → above < k → k < depth_of old → 0 < prefix_len (is_not_above g key) (records_in new (node_for g old key k))
