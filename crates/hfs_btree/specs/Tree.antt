-- A tree over numbered nodes: its levels, and its content.
use Rattle.std.specs.Prelude.{ℕ, zero, suc, Bool, List, [], ◌∷◌, ◌++◌, map, drop, slice_index_or, Result, Ok, Err}
use Rattle.std.specs.List.{flat_map}
use Rattle.hfs_btree.specs.declared.kind.NodeKind.{NodeKind}
use Rattle.hfs_btree.specs.declared.kind.NodeKind.TheVariants.{Index, Leaf}
use Rattle.hfs_btree.specs.declared.fault.NodeFault.{NodeFault}
use Rattle.hfs_btree.specs.declared.node.Node.{Node}
use Rattle.hfs_btree.specs.Node.{node_of}
use Rattle.hfs_btree.specs.declared.key.Key.{Ghosts}
use Rattle.hfs_btree.specs.Pairs.{Pairs}

-- the nodes of a file, by their numbers from 0 on
abbrev pub Store : Type 0
Store = List (List ℕ)

-- what node n decodes to
unfoldable pub node_in : Store → ℕ → Result Node NodeFault
node_in nodes n = node_of (slice_index_or nodes n [])

abbrev pub records_of : Result Node NodeFault → List (List ℕ)
records_of (Ok v) = v.records
records_of (Err e) = []

abbrev pub forward_of : Result Node NodeFault → ℕ
forward_of (Ok v) = v.forward
forward_of (Err e) = 0

-- the records of node n
abbrev pub records_in : Store → ℕ → List (List ℕ)
records_in nodes n = records_of (node_in nodes n)

-- the key and the body of a leaf's record
abbrev pub pair_of : {K : Type 0} → Ghosts K → List ℕ → K × List ℕ
pair_of g entry = (g.leaf_key entry, drop (g.body_start entry) entry)

-- the pairs of a leaf with these bytes
abbrev pub pairs_of : {K : Type 0} → Ghosts K → List ℕ → Pairs K
pairs_of g bytes = map (pair_of g) (records_of (node_of bytes))

-- the pairs of a leaf
abbrev pub pairs : {K : Type 0} → Ghosts K → Store → ℕ → Pairs K
pairs g nodes n = map (pair_of g) (records_in nodes n)

-- the children that an index node's records name
abbrev pub children : {K : Type 0} → Ghosts K → Store → ℕ → List ℕ
children g nodes n = map g.child (records_in nodes n)

-- the level that is k below this one: each next level is the children of the one above it, in order
abbrev pub level_below : {K : Type 0} → Ghosts K → Store → ℕ → List ℕ → List ℕ
level_below g nodes zero ns = ns
level_below g nodes (suc k) ns = level_below g nodes k (flat_map (children g nodes) ns)

-- the last of so many levels, of which this is the first
abbrev pub last_level : {K : Type 0} → Ghosts K → Store → ℕ → List ℕ → List ℕ
last_level g nodes zero ns = []
last_level g nodes (suc k) ns = level_below g nodes k ns

-- a node between its neighbours in its level, 0 at the ends, so many levels above the leaves
pub record Spot : Type 0 where
  pub left : ℕ
  pub n : ℕ
  pub right : ℕ
  pub above : ℕ

abbrev pub first_of : List ℕ → ℕ
first_of [] = 0
first_of (n ∷ ns) = n

abbrev pub last_of : List ℕ → ℕ
last_of [] = 0
last_of (n ∷ []) = n
last_of (n ∷ m ∷ ns) = last_of (m ∷ ns)

-- the nodes of a level in turn, where `left` precedes them
abbrev pub spots : ℕ → ℕ → List ℕ → List Spot
spots above left [] = []
spots above left (n ∷ ns) = record { left = left; n = n; right = first_of ns; above = above } ∷ spots above n ns

-- the nodes of so many levels in turn, from this level on
abbrev pub turn : {K : Type 0} → Ghosts K → Store → ℕ → List ℕ → List Spot
turn g nodes zero ns = []
turn g nodes (suc k) ns = spots k 0 ns ++ turn g nodes k (flat_map (children g nodes) ns)

-- the pairs under a node that is so many levels above the leaves
abbrev pub under : {K : Type 0} → Ghosts K → Store → ℕ → ℕ → Pairs K
under g nodes zero n = pairs g nodes n
under g nodes (suc k) n = flat_map (under g nodes k) (children g nodes n)

abbrev pub kind_at : ℕ → NodeKind
kind_at zero = Leaf
kind_at (suc k) = Index

-- bytes that are a record of a node so many levels above the leaves
abbrev pub reads_at : {K : Type 0} → Ghosts K → ℕ → List ℕ → Bool
reads_at g zero = g.is_leaf
reads_at g (suc k) = g.is_index

-- the key of a record of a node so many levels above the leaves
abbrev pub key_at : {K : Type 0} → Ghosts K → ℕ → List ℕ → K
key_at g zero = g.leaf_key
key_at g (suc k) = g.index_key
