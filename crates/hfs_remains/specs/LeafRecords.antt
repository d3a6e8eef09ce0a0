-- The records of a tree's leaves, whatever else of the tree is wrong.
use Rattle.std.specs.Prelude.{◌≡◌, ℕ, Bool, true, false, ◌&&◌, ◌==◌, if◌then◌else◌, List, [], ◌++◌, map, length, Result, Ok, Err}
use Rattle.std.specs.Bool.{beq}
use Rattle.std.specs.List.{flat_map, range_with_len}
use Rattle.std.proofs.Common.{Vec, Global}
use Rattle.hfs_btree.specs.declared.fault.NodeFault.{NodeFault}
use Rattle.hfs_btree.specs.declared.node.Node.{Node}
use Rattle.hfs_btree.specs.Tree.{Store, node_in}
use Rattle.hfs_btree_checks.specs.Shape.{is_kind_at}
use Rattle.hfs_remains.specs.InUse.{is_in_use}
use Rattle.hfs_remains.specs.declared.leaf_records.LeafRecord.{LeafRecord}

-- a leaf has the height 1
abbrev pub is_leaf : Node → Bool
is_leaf node = is_kind_at 0 node.kind && (node.height == 1)

-- the records of what decodes as a leaf, none of anything else
abbrev pub leaf_records : Result Node NodeFault → List (List ℕ)
leaf_records (Ok node) = if is_leaf node then node.records else []
leaf_records (Err fault) = []

-- records of a leaf that is old, or isn't
abbrev pub with_age : Bool → List (List ℕ) → List LeafRecord
with_age old records = map (λ bytes. record { old = old; bytes = bytes }) records

-- the records of node n, where it is a leaf that is old as is asked: one that is not in use is old
abbrev pub records_at : Store → Bool → ℕ → List LeafRecord
records_at nodes old n = if beq old (is_in_use nodes n) then [] else with_age old (leaf_records (node_in nodes n))

-- of all leaves that are old as is asked, in the order of their numbers
unfoldable pub records_of_age : Store → Bool → List LeafRecord
records_of_age nodes old = flat_map (records_at nodes old) (range_with_len 0 (length nodes))

-- of the leaves that are in use, and then of the others
unfoldable pub all_leaf_records : Store → List LeafRecord
all_leaf_records nodes = records_of_age nodes false ++ records_of_age nodes true

-- ---- what is added to records that were read

-- these records follow the old ones
abbrev pub Adds : List LeafRecord → Vec LeafRecord Global → Vec LeafRecord Global → Type 0
Adds more old new = new.items ≡ old.items ++ more
