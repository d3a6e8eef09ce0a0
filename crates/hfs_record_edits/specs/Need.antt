-- How many free nodes records need that are added to the extents tree.
use Rattle.std.specs.Prelude.{ℕ, ◌+◌, ◌-◌, ◌*◌, ◌/◌, ◌≤◌, ◌==◌, ◌&&◌, nat_le, nat_lt, length, if◌then◌else◌}
use Rattle.hfs_btree.specs.Tree.{Store}
use Rattle.hfs_btree.specs.Header.{depth_of, free_nodes}
use Rattle.hfs_space.specs.TreeKeys.{overflow_of}

-- How many nodes n records may need that are added to an extents tree of d levels and r records. Where all fit into one leaf, they need that
-- leaf, if the tree is empty. Where there could come to be more than 16 levels, it is more than any tree has. Else each may need a
-- node on each level, and one for a new root.
unfoldable pub extents_need : ℕ → ℕ → ℕ → ℕ
extents_need n d r = if n == 0 then 0 else if nat_le d 1 && nat_le (r + n) 22 then 1 - d else if nat_lt 16 (d + n) then 4294967296 else n * d + n * (n + 1) / 2

-- the tree has as many free nodes as n more records may need
abbrev pub HasNodesFor : ℕ → Store → Type 0
HasNodesFor n nodes = extents_need n (depth_of nodes) (length (overflow_of nodes)) ≤ free_nodes nodes
