-- The two parts of a node, and the index record that names the second.
use Rattle.std.specs.Prelude.{◌≡◌, ℕ, ◌<◌, ◌≤◌, Bool, true, false, List, [], Ok, length, take, drop, slice_index_or}
use Rattle.std.specs.Ordering.{is_gt}
use Rattle.hfs_btree.specs.declared.node.Node.{Node}
use Rattle.hfs_btree.specs.declared.key.Key.{Ghosts}
use Rattle.hfs_btree.specs.Tree.{Store, node_in, records_in}
use Rattle.hfs_btree_edits.specs.Stored.{HasStored}
use Rattle.hfs_btree_edits.specs.LevelParts.{entry_key}
use Rattle.hfs_btree_insertion.specs.Stored.{HasLinked}

-- the place is within these records of a node, which is k levels above the leaves, and no record before it has a key above the key
pub record IsPlaceBehind {K : Type 0} (g : Ghosts K) (key : K) (k : ℕ) (records : List (List ℕ)) (place : ℕ) : Type 0 where
  pub within : place ≤ length records
  pub low : (j : ℕ) → j < place → is_gt (g.compare (entry_key g k (slice_index_or records j [])) key) ≡ false

-- the index record names node m, and has the key of record c of node n, which is k levels above the leaves
pub record NamesHalf {K : Type 0} (g : Ghosts K) (nodes : Store) (n c k m : ℕ) (entry : List ℕ) : Type 0 where
  pub index : g.is_index entry ≡ true
  pub names : g.child entry ≡ m
  pub keyed : g.index_key entry ≡ entry_key g k (slice_index_or (records_in nodes n) c [])

-- the records of node n from place c on went to node m, which follows it
pub record HasHalved (n m c : ℕ) (leaves : Bool) (old new : Store) : Type 0 where
  pub node : Node
  pub was : node_in old n ≡ Ok node
  pub cut : Store
  pub both : Store
  pub first : HasStored n (record node { forward = m; records = take c node.records }) old cut
  pub second : HasStored m (record node { backward = n; records = drop c node.records }) cut both
  pub linked : HasLinked node.forward m leaves both new
