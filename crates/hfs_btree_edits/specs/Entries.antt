-- Records of a node that edits look at.
use Rattle.std.specs.Prelude.{◌≡◌, ℕ, ◌<◌, true, List, [], Some, length, drop, slice_index_or}
use Rattle.std.specs.declared.cmp.Ordering.TheVariants.{Equal}
use Rattle.hfs_btree.specs.declared.node.Node.{Node}
use Rattle.hfs_btree.specs.Node.{node_of}
use Rattle.hfs_btree.specs.declared.key.Key.{Ghosts}
use Rattle.hfs_btree.specs.Pairs.{lookup}
use Rattle.hfs_btree.specs.Header.{body_at}
use Rattle.hfs_btree.specs.Search.{leaf_for}
use Rattle.hfs_btree.specs.Tree.{Store, records_of, pairs_of}
use Rattle.hfs_btree_edits.specs.declared.seeking.RecordPlace.{RecordPlace}

-- the first record of a node
abbrev pub first_record : Node → List ℕ
first_record node = slice_index_or node.records 0 []

-- the record at a place of a node with these bytes
abbrev pub record_at : List ℕ → ℕ → List ℕ
record_at bytes place = slice_index_or (records_of (node_of bytes)) place []

-- the record at this place of a leaf has the key
abbrev pub HasKeyAt : {K : Type 0} → Ghosts K → K → List ℕ → ℕ → Type 0
HasKeyAt g key bytes place = g.compare key (g.leaf_key (record_at bytes place)) ≡ Equal

-- the body of the record at this place is the leaf's body under the key
abbrev pub HasBodyAt : {K : Type 0} → Ghosts K → K → List ℕ → ℕ → Type 0
HasBodyAt g key bytes place =
    let entry = record_at bytes place in lookup g.compare key (pairs_of g bytes) ≡ Some (drop (g.body_start entry) entry)

-- the record with the key is the one at this place
pub record IsPlaceOf {K : Type 0} (g : Ghosts K) (nodes : Store) (key : K) (place : RecordPlace) : Type 0 where
  pub leaf : place.leaf ≡ leaf_for g nodes key
  pub read : place.bytes ≡ slice_index_or nodes place.leaf []
  pub within : place.at < length (records_of (node_of place.bytes))
  pub equal : HasKeyAt g key place.bytes place.at
  pub body : HasBodyAt g key place.bytes place.at
  pub is_leaf : g.is_leaf (record_at place.bytes place.at) ≡ true
  pub found : body_at g nodes key ≡ Some (drop (g.body_start (record_at place.bytes place.at)) (record_at place.bytes place.at))
