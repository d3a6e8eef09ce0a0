-- The keys of a tree, in leaves and index nodes, and what an edit makes of them.
use Rattle.std.specs.Prelude.{◌≡◌, ◌⊎◌, List, map}
use Rattle.std.specs.List.{flat_map}
use Rattle.hfs_btree.specs.declared.key.Key.{Ghosts}
use Rattle.hfs_fields.specs.Each.{Each}
use Rattle.hfs_fields.specs.Members.{In}
use Rattle.hfs_btree.specs.Tree.{Store, Spot, records_in}
use Rattle.hfs_btree.specs.Header.{tree_turn}
use Rattle.hfs_btree.specs.Tree.{key_at}

-- the keys of a node, at its place
abbrev pub keys_at : {K : Type 0} → Ghosts K → Store → Spot → List K
keys_at g nodes spot = map (key_at g spot.above) (records_in nodes spot.n)

-- the keys of all nodes, in the turn of levels
abbrev pub tree_keys : {K : Type 0} → Ghosts K → Store → List K
tree_keys g nodes = flat_map (keys_at g nodes) (tree_turn g nodes)

-- the fact holds of the key of each record, in leaves and index nodes
abbrev pub EachKey : {K : Type 0} → Ghosts K → (K → Type 0) → Store → Type 0
EachKey g P nodes = Each (λ spot. Each (λ entry. P (key_at g spot.above entry)) (records_in nodes spot.n)) (tree_turn g nodes)

-- it is a key of the tree, or this one
abbrev pub IsKeyOr : {K : Type 0} → Ghosts K → Store → K → K → Type 0
IsKeyOr g nodes key k = (k ≡ key) ⊎ In k (tree_keys g nodes)
