-- The leaf where the last search for a key ended.
use Rattle.std.specs.Prelude.{◌≡◌, ℕ, true, ◌<◌, [], slice_index_or}
use Rattle.hfs_btree.specs.Node.{node_of}
use Rattle.hfs_fields.specs.Each.{Each}
use Rattle.hfs_btree.specs.declared.key.Key.{Ghosts}
use Rattle.hfs_btree.specs.declared.near.LastLeaf.{LastLeaf}
use Rattle.hfs_btree.specs.Tree.{Store, records_of}
use Rattle.hfs_btree.specs.Header.{depth_of}
use Rattle.hfs_btree.specs.Search.{leaf_for}

-- where a leaf was read, it is the one where the search for some key ends
pub record IsLastLeaf {K : Type 0} (g : Ghosts K) (nodes : Store) (last : LastLeaf) : Type 0 where
  pub some : last.is_read ≡ true → 0 < depth_of nodes
  pub other : last.is_read ≡ true → (key : K) × (last.bytes ≡ slice_index_or nodes (leaf_for g nodes key) [])

-- where a leaf was read, its records are a leaf's
abbrev pub HasLeafRecords : {K : Type 0} → Ghosts K → LastLeaf → Type 0
HasLeafRecords g last = last.is_read ≡ true → Each (λ entry. g.is_leaf entry ≡ true) (records_of (node_of last.bytes))
