-- Lemmas about the definitions of specs/Stored.antt.
use Rattle.std.specs.Prelude.{◌≡◌, ◌≢◌, ℕ, ◌≤◌, Ok, length}
use Rattle.hfs_btree.specs.declared.kind.NodeKind.TheVariants.{Header as HeaderKind}
use Rattle.hfs_btree.specs.declared.node.Node.{Node}
use Rattle.hfs_btree.specs.declared.key.Key.{Ghosts}
use Rattle.hfs_fields.specs.Each.{Each}
use Rattle.hfs_btree.specs.Tree.{Store, node_in}
use Rattle.hfs_btree.specs.Header.{header_in, record_in, depth_of, map_nodes}
use Rattle.hfs_btree_edits.specs.Stored.{IsSame, IsOnward}

-- the header node has its form, the node map is the same, and so is the link to the map nodes
pub record HasNewHeader {K : Type 0} (g : Ghosts K) (old new : Store) : Type 0 where
  pub value : Node
  pub decodes : node_in new 0 ≡ Ok value
  pub kind : value.kind ≡ HeaderKind
  pub three : length value.records ≡ 3
  pub long : length (record_in new 0 0) ≡ length (record_in old 0 0)
  pub map : record_in new 0 2 ≡ record_in old 0 2
  pub forward : IsOnward old new 0
  pub nodes : (header_in new).nodes ≡ (header_in old).nodes
  pub node_size : (header_in new).node_size ≡ (header_in old).node_size
  pub key_len : (header_in new).key_len ≡ (header_in old).key_len
  pub shallow : depth_of new ≤ depth_of old
  pub chain : Each (IsSame old new) (map_nodes old)

-- the header record has got other counts, and nothing else has changed
pub record IsRecounted {K : Type 0} (g : Ghosts K) (old new : Store) : Type 0 where
  pub head : HasNewHeader g old new
  pub depth : depth_of new ≡ depth_of old
  pub root : (header_in new).root ≡ (header_in old).root
  pub first : (header_in new).first_leaf ≡ (header_in old).first_leaf
  pub last : (header_in new).last_leaf ≡ (header_in old).last_leaf
  pub rest : (m : ℕ) → m ≢ 0 → node_in new m ≡ node_in old m
