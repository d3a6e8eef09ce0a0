-- What a tree is from which records were taken, one after the other.
use Rattle.std.specs.Prelude.{◌≡◌, ℕ, ◌+◌, ◌≤◌, length, drop}
use Rattle.hfs_btree.specs.declared.key.Key.{Ghosts}
use Rattle.hfs_btree.specs.Tree.{Store}
use Rattle.hfs_btree.specs.Header.{header_in, depth_of, free_nodes, tree_nodes}
use Rattle.hfs_btree.specs.Sound.{IsSound, IsExact, IsStray, KeepsFrame}
use Rattle.hfs_btree_edits.specs.KeptKeys.{tree_keys, EachKey}
use Rattle.hfs_btree_edits.specs.Stored.{bytes_in}
use Rattle.hfs_fields.specs.Members.{In}
use Rattle.hfs_space.specs.TreeKeys.{ext_keys, overflow_of}
use Rattle.hfs_record_edits.specs.Overflows.{without_file}

-- A sound tree, exact where it was, with its frame and no key that it didn't have. The nodes that left its levels are free, and it has
-- no more levels than before. The stray nodes, and those of the file that aren't the tree's, have their bytes.
pub record HasShrunk {K : Type 0} (g : Ghosts K) (old new : Store) : Type 0 where
  pub sound : IsSound g new
  pub exact : IsExact g old → IsExact g new
  pub frame : KeepsFrame g old new
  pub keys : EachKey g (λ k. In k (tree_keys g old)) new
  pub nodes : free_nodes new + length (tree_nodes g new) ≡ free_nodes old + length (tree_nodes g old)
  pub free : free_nodes old ≤ free_nodes new
  pub depth : depth_of new ≤ depth_of old
  pub stray : (n : ℕ) → IsStray g old n → bytes_in new n ≡ bytes_in old n
  pub behind : drop (header_in old).nodes new ≡ drop (header_in old).nodes old

-- the records of an extents tree are those of other files than this one
pub record HasDroppedOverflow (file : ℕ) (old new : Store) : Type 0 where
  pub shrunk : HasShrunk ext_keys old new
  pub content : overflow_of new ≡ without_file file (overflow_of old)
