-- A new root that was put above the old one.
use Rattle.std.specs.Prelude.{true, ◌≡◌, ◌≢◌, ℕ, suc, ◌+◌, ◌-◌, List, [], ◌∷◌, Ok, slice_index_or}
use Rattle.hfs_btree.specs.declared.kind.NodeKind.TheVariants.{Index}
use Rattle.hfs_btree.specs.declared.node.Node.{Node}
use Rattle.hfs_btree.specs.declared.key.Key.{Ghosts}
use Rattle.hfs_btree.specs.Tree.{Store, node_in, records_in}
use Rattle.hfs_btree.specs.Header.{header_in, depth_of}
use Rattle.hfs_btree.specs.Sound.{IsSound, IsStray}
use Rattle.hfs_btree_edits.specs.Stored.{KeepsHead, bytes_in}
use Rattle.hfs_btree_edits.specs.LevelParts.{entry_key}

-- an index node whose one record names the root, with the root's first key
pub record IsRootAbove {K : Type 0} (g : Ghosts K) (nodes : Store) (node : Node) : Type 0 where
  pub entry : List ℕ
  pub index : g.is_index entry ≡ true
  pub names : g.child entry ≡ (header_in nodes).root
  pub keyed : g.index_key entry ≡ entry_key g (depth_of nodes - 1) (slice_index_or (records_in nodes (header_in nodes).root) 0 [])
  pub forward : node.forward ≡ 0
  pub backward : node.backward ≡ 0
  pub kind : node.kind ≡ Index
  pub height : node.height ≡ depth_of nodes + 1
  pub one : node.records ≡ entry ∷ []

-- node m, which was a stray one, is the root, and its one record names the old root, which is d levels above the leaves
pub record IsRaised {K : Type 0} (g : Ghosts K) (old new : Store) (d m : ℕ) : Type 0 where
  pub deep : depth_of old ≡ suc d
  pub stray : IsStray g old m
  pub entry : List ℕ
  pub index : g.is_index entry ≡ true
  pub names : g.child entry ≡ (header_in old).root
  pub keyed : g.index_key entry ≡ entry_key g d (slice_index_or (records_in old (header_in old).root) 0 [])
  pub node : Node
  pub is : node_in new m ≡ Ok node
  pub forward : node.forward ≡ 0
  pub backward : node.backward ≡ 0
  pub kind : node.kind ≡ Index
  pub height : node.height ≡ suc d + 1
  pub one : node.records ≡ entry ∷ []
  pub rest : (x : ℕ) → x ≢ 0 → x ≢ m → node_in new x ≡ node_in old x
  pub bytes : (x : ℕ) → x ≢ 0 → x ≢ m → bytes_in new x ≡ bytes_in old x
  pub root : (header_in new).root ≡ m
  pub depth : depth_of new ≡ suc (suc d)
  pub first_leaf : (header_in new).first_leaf ≡ (header_in old).first_leaf
  pub last_leaf : (header_in new).last_leaf ≡ (header_in old).last_leaf
  pub records : (header_in new).records ≡ (header_in old).records
  pub free : (header_in new).free_nodes ≡ (header_in old).free_nodes
  pub head : KeepsHead old new

-- this was done, and the tree is sound
pub record HasRootPut {K : Type 0} (g : Ghosts K) (old new : Store) (m : ℕ) : Type 0 where
  pub d : ℕ
  pub raised : IsRaised g old new d m
  pub sound : IsSound g new
