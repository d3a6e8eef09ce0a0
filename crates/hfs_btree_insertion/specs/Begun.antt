-- A leaf that begins with a new record.
use Rattle.std.specs.Prelude.{◌≡◌, true, ℕ, ◌+◌, ◌<◌, List, [], ◌∷◌, drop, length, Ok}
use Rattle.hfs_btree.specs.declared.node.Node.{Node}
use Rattle.hfs_btree.specs.declared.key.Key.{Ghosts}
use Rattle.hfs_btree.specs.Pairs.{IsAbove}
use Rattle.hfs_btree.specs.Tree.{Store, node_in, records_in, pairs}
use Rattle.hfs_btree.specs.Header.{header_in, depth_of, tree_content}
use Rattle.hfs_btree.specs.Sound.{HasHeader, HasMap}
use Rattle.hfs_btree_edits.specs.Stored.{HasStored}
use Rattle.hfs_btree_edits.specs.Edits.{KeepsTree, level_above, node_for, with_pair}
use Rattle.hfs_btree_edits.specs.KeptKeys.{EachKey, IsKeyOr}
use Rattle.hfs_btree_insertion.specs.Stored.{HasLinked}
use Rattle.hfs_btree_insertion.specs.Growth.{NodesStay, IsLeafFull}
use Rattle.hfs_btree_insertion.specs.Cut.{IsParted, child_at}

-- the key is above all keys of the leaf where the search for it ends
abbrev pub IsAboveLeaf : {K : Type 0} → Ghosts K → Store → K → Type 0
IsAboveLeaf g nodes key = IsAbove g.compare key (pairs g nodes (node_for g nodes key 0))

-- so it is, and that leaf has no room for a record of so many bytes
pub record IsBehindLeaf {K : Type 0} (g : Ghosts K) (nodes : Store) (key : K) (len : ℕ) : Type 0 where
  pub above : IsAboveLeaf g nodes key
  pub full : IsLeafFull g nodes key len

-- leaf m, which follows leaf n, has this one record
pub record HasBehind (n m : ℕ) (entry : List ℕ) (old new : Store) : Type 0 where
  pub node : Node
  pub was : node_in old n ≡ Ok node
  pub cut : Store
  pub both : Store
  pub first : HasStored n (record node { forward = m }) old cut
  pub second : HasStored m (record node { backward = n; records = entry ∷ [] }) cut both
  pub linked : HasLinked node.forward m true both new

-- so it does after the leaf that record q of node p names; a record with the key after that one names it, and one more is counted
pub record HasBegunAt {K : Type 0} (g : Ghosts K) (key : K) (entry : List ℕ) (p q m : ℕ) (old new : Store) : Type 0 where
  pub i : ℕ
  pub parts : IsParted g old new i 0 p (child_at g old p q) m q (records_in old (child_at g old p q)) (entry ∷ [])
  pub keyed : g.index_key parts.entry ≡ key
  pub counted : (header_in new).records ≡ (header_in old).records + 1
  pub header : HasHeader g new
  pub map : HasMap new

-- the pair is in a leaf that is new; the levels above the leaves are the same
pub record HasLeafBegun {K : Type 0} (g : Ghosts K) (key : K) (body : List ℕ) (old new : Store) : Type 0 where
  pub keeps : KeepsTree g old new
  pub others : NodesStay g old new
  pub keys : EachKey g (IsKeyOr g old key) new
  pub content : tree_content g new ≡ with_pair g.compare key body (tree_content g old)
  pub depth : depth_of new ≡ depth_of old
  pub levels : (k : ℕ) → 0 < k → k < depth_of old → level_above g new k ≡ level_above g old k
  pub grown : length (level_above g new 0) ≡ length (level_above g old 0) + 1

-- the pair of this leaf record is in a leaf that is new
abbrev pub HasEntryBegun : {K : Type 0} → Ghosts K → K → List ℕ → Store → Store → Type 0
HasEntryBegun g key entry old new = HasLeafBegun g key (drop (g.body_start entry) entry) old new
