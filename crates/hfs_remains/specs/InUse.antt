-- The nodes of a tree that are in use, as far as its own map of them can be believed.
use Rattle.std.specs.Prelude.{◌≡◌, ℕ, zero, suc, Bool, true, false, not, ◌&&◌, ◌||◌, ◌==◌, nat_le, if◌then◌else◌, List, [], ◌∷◌, ◌++◌, length, slice_index_or, Option, Some, None, Result, Ok, Err, MatchOption}
use Rattle.std.specs.List.{flat_map}
use Rattle.std.proofs.Common.{Vec, Global}
use Rattle.hfs_fields.specs.Numbers.{number_at}
use Rattle.hfs_btree.specs.declared.fault.NodeFault.{NodeFault}
use Rattle.hfs_btree.specs.declared.node.Node.{Node}
use Rattle.hfs_btree.specs.Tree.{Store, node_in, forward_of}
use Rattle.hfs_btree.specs.Header.{record_in, bit_of}
use Rattle.hfs_btree_checks.specs.Shape.{is_header_kind, is_map_result}

-- a header node with three records, the first of which has the last leaf's number
abbrev pub is_head : Node → Bool
is_head node = is_header_kind node.kind && (length node.records == 3) && nat_le 18 (length (slice_index_or node.records 0 []))

abbrev pub is_head_result : Result Node NodeFault → Bool
is_head_result (Ok node) = is_head node
is_head_result (Err fault) = false

-- ---- the map

-- from node n on, the map nodes that hang on each other, each once
abbrev pub map_chain : Store → (ℕ → Bool) → ℕ → ℕ → List ℕ
map_chain nodes met zero n = []
map_chain nodes met (suc most) n =
    if is_map_result (node_in nodes n) && not (met n) then n ∷ map_chain nodes (λ k. met k || (n == k)) most (forward_of (node_in nodes n)) else []

-- the parts of the map that they have
abbrev pub chain_bytes : Store → (ℕ → Bool) → ℕ → ℕ → List ℕ
chain_bytes nodes met most n = flat_map (λ n. record_in nodes n 0) (map_chain nodes met most n)

-- the third record of node 0, and then the first of each map node from the one that hangs on node 0
unfoldable pub map_of : Store → List ℕ
map_of nodes = record_in nodes 0 2 ++ chain_bytes nodes (λ n. false) (length nodes) (forward_of (node_in nodes 0))

-- the number of the last leaf, as the header record gives it
abbrev pub last_leaf : Store → ℕ
last_leaf nodes = number_at 14 4 (record_in nodes 0 0)

-- the map can be believed where it marks node 0 and the last leaf
unfoldable pub is_map_believed : Store → Bool
is_map_believed nodes = is_head_result (node_in nodes 0) && bit_of (map_of nodes) 0 && bit_of (map_of nodes) (last_leaf nodes)

-- ---- the nodes

-- those that the map marks, or all where it can't be believed
unfoldable pub is_in_use : Store → ℕ → Bool
is_in_use nodes n = if is_map_believed nodes then bit_of (map_of nodes) n else true

-- ---- what is read

-- whether a node is in use by this map, or where there is none
abbrev pub is_marked_by : Option (Vec ℕ Global) → ℕ → Bool
is_marked_by None n = true
is_marked_by (Some map) n = bit_of map.items n

-- it is the map of these nodes, or none where that can't be believed
abbrev pub TellsUse : Store → Option (Vec ℕ Global) → Type 0
TellsUse nodes map = (n : ℕ) → is_marked_by map n ≡ is_in_use nodes n

-- node n is a map node, this is the one after it, and its part of the map is added
pub record IsMapLink (nodes : Store) (n : ℕ) (old new : List ℕ) (later : ℕ) : Type 0 where
  pub right : is_map_result (node_in nodes n) ≡ true
  pub forward : later ≡ forward_of (node_in nodes n)
  pub part : new ≡ old ++ record_in nodes n 0

-- what is said about a map node; of any other none, and nothing is added
abbrev pub FindsMapNode : Store → ℕ → List ℕ → List ℕ → Option ℕ → Type 0
FindsMapNode nodes n old new found = MatchOption found ((is_map_result (node_in nodes n) ≡ false) × (new ≡ old)) (IsMapLink nodes n old new)
