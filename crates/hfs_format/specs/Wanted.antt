-- What a new volume is to hold. Blocks are logical blocks of 512 bytes where they are not said to be allocation blocks.
use Rattle.std.specs.Prelude.{ℕ, ◌+◌, ◌*◌, Bool, ◌&&◌, nat_le, List}
use Rattle.std.specs.Int.{div_ceil}
use Rattle.std.specs.List.{sum_by}
use Rattle.hfs_format.specs.Plan.{allocation_blocks, block_factor, file_blocks}
use Rattle.hfs_format.specs.declared.items.NewItem.{NewItem}
use Rattle.hfs_format.specs.declared.items.NewItem.TheVariants.{Folder, File}

-- how many allocation blocks of `factor` blocks the forks of an item take
abbrev pub fork_blocks : ℕ → NewItem → ℕ
fork_blocks factor (Folder name_len) = 0
fork_blocks factor (File file) = div_ceil file.data_len (512 * factor) + div_ceil file.resource_len (512 * factor)

-- how many the extents file of 8 nodes takes, and a catalog of so many
abbrev pub tree_blocks : ℕ → ℕ → ℕ
tree_blocks factor nodes = file_blocks factor 8 + file_blocks factor nodes

-- both trees, and the forks of all items
abbrev pub wanted_blocks : ℕ → List NewItem → ℕ → ℕ
wanted_blocks nodes items factor = tree_blocks factor nodes + sum_by (fork_blocks factor) items

-- a volume of so many blocks has so many allocation blocks
abbrev pub has_blocks : ℕ → ℕ → Bool
has_blocks wanted blocks = nat_le wanted (allocation_blocks blocks)

-- a volume of so many blocks, 2 GB at most, holds both trees and all items
abbrev pub holds_all : ℕ → List NewItem → ℕ → Bool
holds_all nodes items blocks = nat_le blocks 4194304 && has_blocks (wanted_blocks nodes items (block_factor blocks)) blocks
