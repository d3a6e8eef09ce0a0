-- The header node of a tree, its map of nodes, and the tree that they head.
use Rattle.std.specs.Prelude.{◌≡◌, ℕ, zero, suc, ◌-◌, ◌/◌, ◌%◌, ◌^◌, Bool, false, not, ◌==◌, List, [], ◌∷◌, ◌++◌, map, slice_index, slice_index_or, if◌then◌else◌, Option}
use Rattle.std.specs.List.{flat_map, range_with_len, count_by}
use Rattle.std.specs.Option.{option_map}
use Rattle.std.proofs.Common.{Vec, Global}
use Rattle.hfs_fields.specs.Numbers.{number_at}
use Rattle.hfs_btree.specs.declared.header.Header.{Header}
use Rattle.hfs_btree.specs.declared.key.Key.{Ghosts}
use Rattle.hfs_btree.specs.Pairs.{Pairs, lookup, after}
use Rattle.hfs_btree.specs.Tree.{Store, node_in, records_in, forward_of, pairs, last_level, Spot, turn}

-- the fields of a header record, each at its place
unfoldable pub header_of : List ℕ → Header
header_of bytes =
    record {
      depth = number_at 0 2 bytes;
      root = number_at 2 4 bytes;
      records = number_at 6 4 bytes;
      first_leaf = number_at 10 4 bytes;
      last_leaf = number_at 14 4 bytes;
      node_size = number_at 18 2 bytes;
      key_len = number_at 20 2 bytes;
      nodes = number_at 22 4 bytes;
      free_nodes = number_at 26 4 bytes;
    }

-- record i of node n
abbrev pub record_in : Store → ℕ → ℕ → List ℕ
record_in nodes n i = slice_index_or (records_in nodes n) i []

-- the header record: the first of node 0
abbrev pub header_in : Store → Header
header_in nodes = header_of (record_in nodes 0 0)

-- the chain of nodes that hang forwards on each other, at most so many
abbrev pub chain_from : Store → ℕ → ℕ → List ℕ
chain_from nodes zero n = []
chain_from nodes (suc most) n = if n == 0 then [] else n ∷ chain_from nodes most (forward_of (node_in nodes n))

-- the map nodes, which hang on the header node: where they are different nodes, no more than the tree has
unfoldable pub map_nodes : Store → List ℕ
map_nodes nodes = chain_from nodes (header_in nodes).nodes (forward_of (node_in nodes 0))

-- header and map nodes
abbrev pub own_nodes : Store → List ℕ
own_nodes nodes = 0 ∷ map_nodes nodes

-- the bytes of the node map: the third record of the header node, and the first of each map node
abbrev pub map_bytes : Store → List ℕ
map_bytes nodes = record_in nodes 0 2 ++ flat_map (λ n. record_in nodes n 0) (map_nodes nodes)

-- bit i, the highest of a byte first
abbrev pub bit_of : List ℕ → ℕ → Bool
bit_of bytes i = (slice_index bytes (i / 8) / 2 ^ (7 - i % 8)) % 2 == 1

-- whether each node of the tree is marked in the map as in use
unfoldable pub marks : Store → List Bool
marks nodes = map (bit_of (map_bytes nodes)) (range_with_len 0 (header_in nodes).nodes)

-- how many nodes are free: those that aren't marked
unfoldable pub free_nodes : Store → ℕ
free_nodes nodes = count_by not (marks nodes)

abbrev pub is_marked : Store → ℕ → Bool
is_marked nodes n = slice_index_or (marks nodes) n false

-- how many levels the tree has
abbrev pub depth_of : Store → ℕ
depth_of nodes = (header_in nodes).depth

-- the root's level, which is the first
abbrev pub root_level : Store → List ℕ
root_level nodes = (header_in nodes).root ∷ []

-- the nodes of the last level
abbrev pub leaves : {K : Type 0} → Ghosts K → Store → List ℕ
leaves g nodes = last_level g nodes (depth_of nodes) (root_level nodes)

-- the pairs of the last level
abbrev pub tree_content : {K : Type 0} → Ghosts K → Store → Pairs K
tree_content g nodes = flat_map (pairs g nodes) (leaves g nodes)

-- the nodes of the tree's levels in turn
abbrev pub tree_turn : {K : Type 0} → Ghosts K → Store → List Spot
tree_turn g nodes = turn g nodes (depth_of nodes) (root_level nodes)

abbrev pub tree_nodes : {K : Type 0} → Ghosts K → Store → List ℕ
tree_nodes g nodes = map (λ spot. spot.n) (tree_turn g nodes)

-- the body under a key in the tree
abbrev pub body_at : {K : Type 0} → Ghosts K → Store → K → Option (List ℕ)
body_at g nodes key = lookup g.compare key (tree_content g nodes)

-- the first pair of the tree whose key is above this one
abbrev pub next_in : {K : Type 0} → Ghosts K → Store → K → Option (K × List ℕ)
next_in g nodes key = after g.compare key (tree_content g nodes)

-- what was found is the body under the key in the tree
abbrev pub IsBodyUnder : {K : Type 0} → Ghosts K → Store → K → Option (Vec ℕ Global) → Type 0
IsBodyUnder g nodes key = λ found. option_map (λ v. v.items) found ≡ body_at g nodes key

-- what was found is the first pair of the tree whose key is above this one
abbrev pub IsNextAfter : {K : Type 0} → Ghosts K → Store → K → Option (K × Vec ℕ Global) → Type 0
IsNextAfter g nodes key = λ found. option_map (λ p. (p.0, p.1.items)) found ≡ next_in g nodes key
