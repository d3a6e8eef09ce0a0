-- What was read of a tree whose file lies in runs of blocks.
use Rattle.std.specs.Prelude.{◌≡◌, ℕ, ◌+◌, ◌*◌, ◌<◌, ◌≤◌, Bool, true, false, ◌&&◌, List, [], ◌++◌, map, length, slice_index_or, Option, Result, IsSome, MatchOption}
use Rattle.std.specs.List.{flat_map, range_with_len}
use Rattle.std.specs.Option.{is_none}
use Rattle.std.proofs.Common.{Vec, Global}
use Rattle.hfs_btree.specs.declared.fault.NodeFault.{NodeFault}
use Rattle.hfs_btree.specs.declared.node.Node.{Node}
use Rattle.hfs_blocks.specs.declared.run.Run.{Run}
use Rattle.hfs_blocks.specs.Blocks.{run_of, nodes_in, AreRunsWithin}
use Rattle.hfs_blocks.specs.Layers.{Numbered, changes}
use Rattle.hfs_btree.specs.declared.key.Key.{Ghosts}
use Rattle.hfs_btree.specs.Tree.{Store, node_in, records_of, forward_of}
use Rattle.hfs_btree.specs.Header.{header_of, map_bytes, bit_of, chain_from}
use Rattle.hfs_btree_checks.specs.Shape.{is_header_node, is_header_record, has_map, is_map_result}
use Rattle.hfs_btree_checks.specs.ShapeSteps.{is_met, map_part, new_chain_fault, AddsMapParts}
use Rattle.hfs_source.specs.Sparse.{sparse, HasEach}
use Rattle.hfs_image.specs.Gathered.{HasRead}
use Rattle.hfs_image.specs.Marked.{chain_of, map_chain, marked_of}
use Rattle.hfs_image.specs.declared.tree_header.TreeHead.{TreeHead}

-- ---- nodes

-- the tree's nodes, with zeros in place of those that weren't read
abbrev pub nodes_of : Numbered → List Run → Store
nodes_of read runs = nodes_in (sparse read) runs

-- the number of the block of a node
abbrev pub block_for : List Run → ℕ → ℕ
block_for runs n = slice_index_or (flat_map run_of runs) n 0

-- the node was read
abbrev pub HasNode : Numbered → List Run → ℕ → Type 0
HasNode read runs n = IsSome (changes read (block_for runs n))

-- what was read stays, and what was read since is of the same image, and among as many blocks as the runs are
abbrev pub ReadsRuns : Option (List ℕ) → List Run → Numbered → Numbered → Type 0
ReadsRuns known runs old new = (total : ℕ) → AreRunsWithin runs total → HasRead known total old new

-- ---- the header node

-- record i of a node
abbrev pub record_at : Result Node NodeFault → ℕ → List ℕ
record_at r i = slice_index_or (records_of r) i []

-- the node is the header node of such a tree in a file of so many bytes
abbrev pub is_head : {K : Type 0} → Ghosts K → ℕ → Result Node NodeFault → Bool
is_head g size r = is_header_node r && is_header_record g size (header_of (record_at r 0))

-- what such a node tells: how many nodes the tree has, the first map node, and the beginning of the node map
pub record IsHeadOf (r : Result Node NodeFault) (head : TreeHead) : Type 0 where
  pub nodes : head.nodes ≡ (header_of (record_at r 0)).nodes
  pub first : head.first ≡ forward_of r
  pub map : head.map.items ≡ record_at r 2

-- what is told of a header node, none of any other
abbrev pub FindsHead : {K : Type 0} → Ghosts K → ℕ → Result Node NodeFault → Option TreeHead → Type 0
FindsHead g size r found = MatchOption found (is_head g size r ≡ false) (λ head. (512 * head.nodes ≤ size) × IsHeadOf r head)

-- ---- the chain of map nodes

-- node n is a map node, this is the node behind it, and its part of the map is added
pub record IsMapLink (nodes : Store) (n : ℕ) (old new : List ℕ) (later : ℕ) : Type 0 where
  pub right : is_map_result (node_in nodes n) ≡ true
  pub forward : later ≡ forward_of (node_in nodes n)
  pub part : new ≡ old ++ map_part nodes n

-- what is told of a map node, none of any other
abbrev pub FindsMapNode : Store → ℕ → List ℕ → List ℕ → Option ℕ → Type 0
FindsMapNode nodes n old new found = MatchOption found (is_map_result (node_in nodes n) ≡ false) (IsMapLink nodes n old new)

-- of the chain of at most so many nodes from a node on, those were read that are map nodes which weren't met before, and the one that ends them
abbrev pub HasChain : Numbered → List Run → ℕ → ℕ → List Bool → Type 0
HasChain read runs most first met = HasEach read (map (block_for runs) (chain_of (nodes_of read runs) (is_met met) (chain_from (nodes_of read runs) most first)))

-- the answer is whether the chain is one of map nodes that weren't met before; then their parts of the map are added
pub record TellsChain (nodes : Store) (count first : ℕ) (met : Vec Bool Global) (old new : Vec ℕ Global) (whole : Bool) : Type 0 where
  pub is : whole ≡ is_none (new_chain_fault nodes count first met)
  pub parts : whole ≡ true → AddsMapParts nodes count first old new

-- ---- the map, and what it marks

-- the map has a bit for each of so many nodes, and is the tree's
pub record IsMapOf (nodes : Store) (count : ℕ) (map : List ℕ) : Type 0 where
  pub bytes : map ≡ map_bytes nodes
  pub long : count ≤ 8 * length map

-- the map of a tree's nodes, none where it is wrong
abbrev pub FindsMap : Store → ℕ → Option (Vec ℕ Global) → Type 0
FindsMap nodes count found = MatchOption found (has_map nodes ≡ false) (λ map. IsMapOf nodes count map.items)

-- the map nodes were read, as far as they are a chain
abbrev pub HasMapChain : Numbered → List Run → Type 0
HasMapChain read runs = HasEach read (map (block_for runs) (map_chain (nodes_of read runs)))

-- of so many nodes those were read that a map marks
abbrev pub HasMarked : Numbered → List Run → List ℕ → ℕ → Type 0
HasMarked read runs bits count = HasEach read (marked_of (map (bit_of bits) (range_with_len 0 count)) (flat_map run_of runs))

-- so many nodes from this one on lie in blocks side by side
abbrev pub LieBeside : List Run → ℕ → ℕ → Type 0
LieBeside runs n count = (k : ℕ) → k < count → block_for runs (n + k) ≡ block_for runs n + k

-- of so many nodes from this one on those were read that a map marks
abbrev pub HasMarkedFrom : Numbered → List Run → List ℕ → ℕ → ℕ → Type 0
HasMarkedFrom read runs bits n count = (k : ℕ) → k < count → bit_of bits (n + k) ≡ true → HasNode read runs (n + k)
