-- A tree with another header node: one whose header record counts right.
use Rattle.std.specs.Prelude.{◌≡◌, ℕ, ◌↔◌, Bool, List, None, length, slice_set}
use Rattle.hfs_btree.specs.declared.key.Key.{Ghosts}
use Rattle.hfs_btree.specs.Tree.{Store}
use Rattle.hfs_btree.specs.Header.{header_in, tree_content}
use Rattle.hfs_btree.specs.Sound.{HasStructure, HasCounts}
use Rattle.hfs_btree_checks.specs.Order.{key_fault, order_fault}

-- the nodes with these bytes in the place of the header node's
abbrev pub with_head : Store → List ℕ → Store
with_head nodes head = slice_set nodes 0 head

-- the new tree has its shape, its two counts are right, and it holds the same
pub record IsRecountOf {K : Type 0} (g : Ghosts K) (old new : Store) : Type 0 where
  pub structure : HasStructure g new
  pub counts : HasCounts g new
  pub file : length new ≡ length old
  pub content : tree_content g new ≡ tree_content g old
  pub nodes : (header_in new).nodes ≡ (header_in old).nodes
  pub keys : (test : K → Bool) → key_fault g new test ≡ key_fault g old test
  pub order : (order_fault g new ≡ None) ↔ (order_fault g old ≡ None)
