-- Going through the leaves of a tree in their order.
use Rattle.std.specs.Prelude.{◌≡◌, ℕ, zero, suc, ◌<◌, ◌≤◌, ◌⊎◌, ◌==◌, List, [], ◌∷◌, ◌++◌, length, map, drop, slice_index_or, if◌then◌else◌}
use Rattle.hfs_btree.specs.Node.{node_of}
use Rattle.hfs_btree.specs.declared.key.Key.{Ghosts}
use Rattle.hfs_btree.specs.Pairs.{Pairs}
use Rattle.hfs_btree.specs.Tree.{Store, node_in, records_of, forward_of, pair_of, pairs}
use Rattle.hfs_btree.specs.Header.{leaves}
use Rattle.hfs_btree.specs.Sound.{HasStructure}

-- the pairs of the leaves that hang forwards on each other from leaf n on, of at most so many
abbrev pub pairs_along : {K : Type 0} → Ghosts K → Store → ℕ → ℕ → Pairs K
pairs_along g nodes zero n = []
pairs_along g nodes (suc most) n = if n == 0 then [] else pairs g nodes n ++ pairs_along g nodes most (forward_of (node_in nodes n))

-- the pairs of a leaf from a place on, and those of the leaves after it
abbrev pub rest_at : {K : Type 0} → Ghosts K → Store → List ℕ → ℕ → ℕ → Pairs K
rest_at g nodes bytes place most = drop place (map (pair_of g) (records_of (node_of bytes))) ++ pairs_along g nodes most (forward_of (node_of bytes))

-- the bytes are those of a leaf, the place is one of its records or after its last, and at most so many leaves are after it
pub record IsAtLeaf {K : Type 0} (g : Ghosts K) (nodes : Store) (bytes : List ℕ) (place most : ℕ) : Type 0 where
  pub n : ℕ
  pub before : List ℕ
  pub behind : List ℕ
  pub read : bytes ≡ slice_index_or nodes n []
  pub split : leaves g nodes ≡ before ++ n ∷ behind
  pub within : place ≤ length (records_of (node_of bytes))
  pub few : length behind ≤ most

-- there is no record from the place on, and no leaf after
pub record IsPastEnd (bytes : List ℕ) (place : ℕ) : Type 0 where
  pub past : length (records_of (node_of bytes)) ≤ place
  pub last : forward_of (node_of bytes) ≡ 0

-- the place is a record of a leaf, or past the end
pub record IsWalk {K : Type 0} (g : Ghosts K) (nodes : Store) (bytes : List ℕ) (place most : ℕ) : Type 0 where
  pub structure : HasStructure g nodes
  pub at : (IsAtLeaf g nodes bytes place most × (place < length (records_of (node_of bytes)))) ⊎ IsPastEnd bytes place

-- from one place in a leaf the same pairs follow as from another
abbrev pub GoesOnSame : {K : Type 0} → Ghosts K → Store → List ℕ → ℕ → ℕ → List ℕ → ℕ → ℕ → Type 0
GoesOnSame g nodes old_bytes old_place old_most bytes place most = rest_at g nodes bytes place most ≡ rest_at g nodes old_bytes old_place old_most
