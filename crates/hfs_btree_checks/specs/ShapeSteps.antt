-- What the parts of the check of a tree's shape promise.
use Rattle.std.specs.Prelude.{◌≡◌, ℕ, ◌-◌, ◌^◌, Bool, false, not, ◌&&◌, ◌||◌, ◌==◌, min, List, [], ◌∷◌, ◌++◌, length, slice_index_or, Option, Some, None, Result, MatchResult, ⊤}
use Rattle.std.specs.List.{flat_map, list_any, sum_by}
use Rattle.std.specs.Option.{is_none}
use Rattle.std.proofs.Common.{Vec, Global}
use Rattle.hfs_btree.specs.declared.key.Key.{Ghosts}
use Rattle.hfs_btree.specs.Tree.{Store, records_in, Spot, spots, turn, last_level}
use Rattle.hfs_btree.specs.Header.{record_in, chain_from}
use Rattle.hfs_btree_checks.specs.Shape.{first_fault, is_map_node, is_own, is_right, turn_fault}
use Rattle.hfs_btree_checks.specs.declared.fault.TreeFault.{TreeFault}
use Rattle.hfs_btree_checks.specs.declared.shape_node.Spot as code
use Rattle.hfs_btree_checks.specs.declared.fault.TreeFault.TheVariants.{At, Memory}

-- the node was met, by the vector that has a mark for each node
abbrev pub is_met : List Bool → ℕ → Bool
is_met met n = slice_index_or met n false

-- the answer names this fault, or memory was refused
abbrev pub IsFault : Option ℕ → TreeFault → Type 0
IsFault fault (At n) = fault ≡ Some n
IsFault fault Memory = ⊤

-- the answer names this fault
abbrev pub IsPlace : Option ℕ → TreeFault → Type 0
IsPlace fault (At n) = fault ≡ Some n
IsPlace fault Memory = ⊥

-- the answer is that node n fails a test, and it does, or memory was refused
abbrev pub IsWrongAt : Bool → ℕ → TreeFault → Type 0
IsWrongAt test n (At m) = (m ≡ n) × (test ≡ false)
IsWrongAt test n Memory = ⊤

-- Ok only where there is no fault, and else the answer names this one, or memory was refused
abbrev pub FindsFault : {A : Type 0} → Option ℕ → Result A TreeFault → Type 0
FindsFault fault result = MatchResult result (λ _. fault ≡ None) (IsFault fault)

-- Ok only where there is no fault, and else the answer names this one
abbrev pub FindsPlace : {A : Type 0} → Option ℕ → Result A TreeFault → Type 0
FindsPlace fault result = MatchResult result (λ _. fault ≡ None) (IsPlace fault)

-- ---- the node map

-- a map node that was not met before
abbrev pub is_new_map_node : Store → Vec Bool Global → ℕ → Bool
is_new_map_node nodes met n = is_map_node nodes n && not (is_met met.items n)

-- the part of the node map that a map node carries
abbrev pub map_part : Store → ℕ → List ℕ
map_part nodes n = record_in nodes n 0

-- the first node of the chain from a node on, of at most so many, that is no map node, or was met before
abbrev pub new_chain_fault : Store → ℕ → ℕ → Vec Bool Global → Option ℕ
new_chain_fault nodes count first met = first_fault (is_map_node nodes) (λ n. n) (is_met met.items) (chain_from nodes count first)

-- the answer is that the chain isn't one of map nodes that were not met before, and it isn't, or memory was refused
abbrev pub IsWrongChain : Store → ℕ → ℕ → Vec Bool Global → TreeFault → Type 0
IsWrongChain nodes count first met = IsWrongAt (is_none (new_chain_fault nodes count first met)) 0

-- the chain is one of map nodes that were not met before
abbrev pub IsNewChain : Store → ℕ → ℕ → Vec Bool Global → Type 0
IsNewChain nodes count first met = new_chain_fault nodes count first met ≡ None

-- the parts of the node map that the chain's nodes carry are added
abbrev pub AddsMapParts : Store → ℕ → ℕ → Vec ℕ Global → Vec ℕ Global → Type 0
AddsMapParts nodes count first old new = new.items ≡ old.items ++ flat_map (λ n. record_in nodes n 0) (chain_from nodes count first)

-- the numbers of the chain's nodes are added
abbrev pub AddsChain : Store → ℕ → ℕ → Vec ℕ Global → Vec ℕ Global → Type 0
AddsChain nodes count first old new = new.items ≡ old.items ++ chain_from nodes count first

-- the chain's nodes are met now, and those that were met before
abbrev pub MeetsChain : Store → ℕ → ℕ → Vec Bool Global → Vec Bool Global → Type 0
MeetsChain nodes count first old new = (k : ℕ) → is_met new.items k ≡ (list_any (λ m. k == m) (chain_from nodes count first) || is_met old.items k)

-- header and map nodes are met, and no others
abbrev pub OwnAreMet : Store → List Bool → Type 0
OwnAreMet nodes met = (n : ℕ) → is_met met n ≡ is_own nodes n

-- ---- the levels

-- node n between these neighbours, so many levels above the leaves
abbrev pub spot_of : code.Spot → Spot
spot_of spot = record { left = spot.left; n = spot.n; right = spot.right; above = spot.above }

-- the node is right at its place, and was not met before
abbrev pub is_new_and_right : {K : Type 0} → Ghosts K → Store → Vec Bool Global → Spot → Bool
is_new_and_right g nodes met spot = is_right g nodes spot && not (is_met met.items spot.n)

-- how many records node n has
abbrev pub record_count : Store → ℕ → ℕ
record_count nodes n = length (records_in nodes n)

-- how many records the nodes have, or the greatest number of 64 bits where there are more
abbrev pub count_within : Store → List ℕ → ℕ
count_within nodes ns = min (sum_by (λ n. length (records_in nodes n)) ns) (2 ^ 64 - 1)

-- the answer names the first fault of a level, whatever is after it, or memory was refused
abbrev pub IsLevelFault : {K : Type 0} → Ghosts K → Store → Vec Bool Global → ℕ → List ℕ → TreeFault → Type 0
IsLevelFault g nodes met above level = λ e. (rest : List Spot) → IsFault (turn_fault g nodes (is_met met.items) (spots above 0 level ++ rest)) e

-- a level has no fault: what is after it has the first one, with the level's nodes met
abbrev pub PassesLevel : {K : Type 0} → Ghosts K → Store → ℕ → List ℕ → Vec Bool Global → Vec Bool Global → Type 0
PassesLevel g nodes above level old new =
    (rest : List Spot) → turn_fault g nodes (is_met old.items) (spots above 0 level ++ rest) ≡ turn_fault g nodes (is_met new.items) rest

-- the first fault of so many levels, from the root's on
abbrev pub fault_from : {K : Type 0} → Ghosts K → Store → Vec Bool Global → ℕ → ℕ → Option ℕ
fault_from g nodes met depth root = turn_fault g nodes (is_met met.items) (turn g nodes depth (root ∷ []))

-- the last of so many levels, from the root's on
abbrev pub leaves_from : {K : Type 0} → Ghosts K → Store → ℕ → ℕ → List ℕ
leaves_from g nodes depth root = last_level g nodes depth (root ∷ [])

-- how many records the last of so many levels has, or the greatest number of 64 bits where there are more
abbrev pub records_from : {K : Type 0} → Ghosts K → Store → ℕ → ℕ → ℕ
records_from g nodes depth root = count_within nodes (leaves_from g nodes depth root)
