-- An empty tree that gets its first pair.
use Rattle.std.specs.Prelude.{◌≡◌, ℕ, ◌+◌, List, [], ◌∷◌}
use Rattle.hfs_btree.specs.declared.kind.NodeKind.TheVariants.{Leaf}
use Rattle.hfs_btree.specs.declared.node.Node.{Node}
use Rattle.hfs_btree.specs.declared.key.Key.{Ghosts}
use Rattle.hfs_btree.specs.Tree.{Store}
use Rattle.hfs_btree.specs.Header.{depth_of, free_nodes, tree_content}
use Rattle.hfs_btree_edits.specs.Edits.{KeepsTree}
use Rattle.hfs_btree_edits.specs.KeptKeys.{EachKey}

-- a leaf with this one record, and no neighbours
pub record IsLoneLeaf (entry : List ℕ) (node : Node) : Type 0 where
  pub forward : node.forward ≡ 0
  pub backward : node.backward ≡ 0
  pub kind : node.kind ≡ Leaf
  pub height : node.height ≡ 1
  pub one : node.records ≡ entry ∷ []

-- the tree was empty, and has this one pair, in one leaf
pub record HasBegun {K : Type 0} (g : Ghosts K) (key : K) (body : List ℕ) (old new : Store) : Type 0 where
  pub keeps : KeepsTree g old new
  pub content : tree_content g new ≡ (key, body) ∷ []
  pub keys : EachKey g (λ k. k ≡ key) new
  pub depth : depth_of new ≡ 1
  pub free : free_nodes new + 1 ≡ free_nodes old
