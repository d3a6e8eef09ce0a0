-- What the writes of an insertion make of a tree's file.
use Rattle.std.specs.Prelude.{◌≡◌, ◌≢◌, ℕ, ◌+◌, ◌<◌, List, ◌++◌, Ok, drop, insert, Bool, true, false}
use Rattle.hfs_btree.specs.declared.node.Node.{Node}
use Rattle.hfs_btree.specs.declared.key.Key.{Ghosts}
use Rattle.hfs_btree_edits.specs.Edits.{with_pair, IsAboveFirst, level_above, HasInserted}
use Rattle.hfs_btree.specs.Tree.{Store, node_in}
use Rattle.hfs_fields.specs.Each.{Each}
use Rattle.hfs_btree.specs.Header.{header_in, depth_of, own_nodes, tree_turn, tree_nodes, tree_content}
use Rattle.hfs_btree.specs.Sound.{IsOther, IsSound, IsExact, KeepsFrame}
use Rattle.hfs_btree_edits.specs.KeptKeys.{EachKey, IsKeyOr}
use Rattle.hfs_btree_edits.specs.Stored.{HasStored, HasHeaderPut, HasBackward, KeepsHead, bytes_in}

-- What follows a new node n of a level is linked back to it; where that is nothing, and the level is that of the leaves,
-- the header record names n as the last leaf.
pub record HasLinked (right n : ℕ) (leaves : Bool) (old new : Store) : Type 0 where
  pub next : right ≢ 0 → HasBackward right n old new
  pub last : right ≡ 0 → leaves ≡ true → HasHeaderPut (record (header_in old) { last_leaf = n }) old new
  pub same : right ≡ 0 → leaves ≡ false → new ≡ old

-- node n got one more record, in front of the one at a place
pub record HasRecordPut (n place : ℕ) (entry : List ℕ) (old new : Store) : Type 0 where
  pub node : Node
  pub was : node_in old n ≡ Ok node
  pub stored : HasStored n (record node { records = insert node.records place entry }) old new

-- The pair was put in its place, and no node was taken for it; each key of the new tree is its key or one of the old tree. An exact
-- tree stays exact where the key is above the least. Besides the header node, the map nodes and those of the levels no node has changed.
pub record HasPut {K : Type 0} (g : Ghosts K) (key : K) (body : List ℕ) (old new : Store) : Type 0 where
  pub sound : IsSound g new
  pub exact : IsAboveFirst g.compare key (tree_content g old) → IsExact g old → IsExact g new
  pub keys : EachKey g (IsKeyOr g old key) new
  pub frame : KeepsFrame g old new
  pub rest : (n : ℕ) → Each (IsOther n) (own_nodes old ++ tree_nodes g old) → bytes_in new n ≡ bytes_in old n
  pub levels : (k : ℕ) → k < depth_of old → level_above g new k ≡ level_above g old k
  pub content : tree_content g new ≡ with_pair g.compare key body (tree_content g old)
  pub turn : tree_turn g new ≡ tree_turn g old
  pub header : header_in new ≡ record (header_in old) { records = (header_in old).records + 1 }
  pub head : KeepsHead old new

-- the header record names node n as the last leaf, and nothing else has changed
abbrev pub HasLastLeaf : ℕ → Store → Store → Type 0
HasLastLeaf n old new = HasHeaderPut (record (header_in old) { last_leaf = n }) old new

-- the header record counts one leaf record more, and nothing else has changed
abbrev pub CountsOneMore : Store → Store → Type 0
CountsOneMore old new = HasHeaderPut (record (header_in old) { records = (header_in old).records + 1 }) old new

-- the pair of this leaf record was put in its place
abbrev pub HasEntryPut : {K : Type 0} → Ghosts K → K → List ℕ → Store → Store → Type 0
HasEntryPut g key entry old new = HasPut g key (drop (g.body_start entry) entry) old new

-- the pair was inserted into the tree that these nodes are
abbrev pub Inserts : {K V : Type 0} → Ghosts K → K → List ℕ → (V → Store) → V → V → Type 0
Inserts g key body nodes old new = HasInserted g key body (nodes old) (nodes new)
