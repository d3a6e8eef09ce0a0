-- What all edits of the catalog keep.
use Rattle.std.proofs.Common.{◌≡◌, ℕ, ◌+◌, ◌≤◌, List, ◌++◌, length}
use Rattle.hfs_fields.specs.declared.key.CatKey.{CatKey}
use Rattle.hfs_fields.specs.Members.{In}
use Rattle.hfs_btree.specs.Tree.{Store}
use Rattle.hfs_btree.specs.Header.{header_in, free_nodes, tree_nodes}
use Rattle.hfs_btree.specs.Sound.{IsExact, KeepsFrame}
use Rattle.hfs_btree_edits.specs.Stored.{bytes_in}
use Rattle.hfs_btree_edits.specs.KeptKeys.{tree_keys, EachKey}
use Rattle.hfs_catalog.specs.Tree.{cat_keys, IsCatalogTree}

-- A sound tree over the same nodes, exact where it was; a node that is added is taken from the free ones, and one that is removed is given back
-- to them. After the tree's own nodes no node of its file has changed. Each key, in index nodes too, is one of these or of the old tree.
pub record KeepsCatalog (given : List CatKey) (old new : Store) : Type 0 where
  pub sound : IsCatalogTree new
  pub exact : IsExact cat_keys old → IsExact cat_keys new
  pub frame : KeepsFrame cat_keys old new
  pub free : free_nodes new + length (tree_nodes cat_keys new) ≡ free_nodes old + length (tree_nodes cat_keys old)
  pub behind : (n : ℕ) → (header_in old).nodes ≤ n → bytes_in new n ≡ bytes_in old n
  pub keys : EachKey cat_keys (λ k. In k (given ++ tree_keys cat_keys old)) new
