-- The two numbers that a tree's header record counts, as it has them and as they are.
use Rattle.std.specs.Prelude.{ℕ, Bool, false, ◌&&◌, ◌==◌, nat_le, if◌then◌else◌, length, Option, Some, None}
use Rattle.std.specs.Option.{option_map_or}
use Rattle.hfs_btree.specs.declared.key.Key.{Ghosts}
use Rattle.hfs_btree.specs.Tree.{Store}
use Rattle.hfs_btree.specs.Header.{header_in, free_nodes, tree_content}
use Rattle.hfs_btree_checks.specs.declared.tree_counts.TreeCounts.{TreeCounts}
use Rattle.hfs_btree_checks.specs.Shape.{unless, ◌or_else◌, levels_fault, has_ends}

-- a number, where the four bytes of its field can hold it
unfoldable pub in_field : ℕ → Option ℕ
in_field n = if nat_le n 4294967295 then Some n else None

-- what the header record says, the records of the leaves, and the free nodes
abbrev pub counts_in : {K : Type 0} → Ghosts K → Store → TreeCounts
counts_in g nodes = record { header = header_in nodes; records = in_field (length (tree_content g nodes)); free_nodes = free_nodes nodes }

-- the header record has both numbers right
unfoldable pub tells_right : TreeCounts → Bool
tells_right counts = option_map_or (λ records. counts.header.records == records) counts.records false && (counts.header.free_nodes == counts.free_nodes)

-- the first fault of what is checked after the node map, except for the two numbers
abbrev pub levels_ends_fault : {K : Type 0} → Ghosts K → Store → Option ℕ
levels_ends_fault g nodes = levels_fault g nodes or_else unless (has_ends g nodes)
