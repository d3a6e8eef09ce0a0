-- The numbers of a new volume, and why a plan is refused. Blocks are logical blocks of 512 bytes where they are not
-- said to be allocation blocks.
use Rattle.std.specs.Prelude.{ℕ, ◌+◌, ◌-◌, ◌*◌, ◌/◌, ◌^◌, ◌<◌, ◌≤◌, Bool, not, ◌&&◌, nat_le, if◌then◌else◌, List, length, Option, Some, None, ◌≡◌, ◌⊎◌, IsTrue}
use Rattle.std.specs.Option.{SomeIff}
use Rattle.hfs_fields.specs.Names.{is_item_name}
use Rattle.hfs_format.specs.declared.format_plan.FormatPlan.{FormatPlan}
use Rattle.hfs_format.specs.declared.layout.Layout.{Layout}
use Rattle.hfs_format.specs.declared.layout.TreeFile.{TreeFile}
use Rattle.hfs_format.specs.declared.format_fault.FormatFault.{FormatFault}
use Rattle.hfs_format.specs.declared.format_fault.FormatFault.TheVariants.{BadName, BadSize, BadNodes, NoRoom, Memory}

-- ---- numbers

-- how many blocks an allocation block has: the least number that leaves at most 65,535 allocation blocks
unfoldable pub block_factor : ℕ → ℕ
block_factor blocks = blocks / 65536 + 1

-- how many blocks the bitmap takes: a bit for each allocation block that so many blocks could have
unfoldable pub bitmap_blocks : ℕ → ℕ
bitmap_blocks blocks = (blocks / block_factor blocks + 4095) / 4096

-- the block where allocation block 0 begins: after two boot blocks, the master directory block and the bitmap
unfoldable pub allocation_start : ℕ → ℕ
allocation_start blocks = 3 + bitmap_blocks blocks

-- how many allocation blocks lie before the last two blocks, the first of which is the alternate master directory block
unfoldable pub allocation_blocks : ℕ → ℕ
allocation_blocks blocks = (blocks - 2 - allocation_start blocks) / block_factor blocks

-- how many allocation blocks so many nodes take
unfoldable pub file_blocks : ℕ → ℕ → ℕ
file_blocks factor nodes = (nodes + (factor - 1)) / factor

-- a tree's file of at least so many nodes, as many as fit its allocation blocks
abbrev pub tree_file : ℕ → ℕ → TreeFile
tree_file factor nodes = record { blocks = file_blocks factor nodes; nodes = file_blocks factor nodes * factor }

-- where the parts of the new volume lie
unfoldable pub layout_of : FormatPlan → Layout
layout_of plan = record {
  name = plan.name.items;
  moment = plan.now;
  blocks = plan.blocks;
  factor = block_factor plan.blocks;
  start = allocation_start plan.blocks;
  allocation_blocks = allocation_blocks plan.blocks;
  extents = tree_file (block_factor plan.blocks) plan.extents_nodes;
  catalog = tree_file (block_factor plan.blocks) plan.catalog_nodes;
}

-- how many allocation blocks the two files take
abbrev pub used_blocks : Layout → ℕ
used_blocks volume = volume.extents.blocks + volume.catalog.blocks

-- ---- faults

-- 1 to 27 characters of an item name
abbrev pub is_volume_name : List ℕ → Bool
is_volume_name name = is_item_name name && nat_le (length name) 27

-- 8 blocks to 2 gigabytes
abbrev pub is_volume_size : ℕ → Bool
is_volume_size blocks = nat_le 8 blocks && nat_le blocks 4194304

-- a catalog has a header node and a leaf at least, an extents file a header node
abbrev pub are_node_counts : FormatPlan → Bool
are_node_counts plan = nat_le 2 plan.catalog_nodes && nat_le 1 plan.extents_nodes

abbrev pub has_room : Layout → Bool
has_room volume = nat_le (used_blocks volume) volume.allocation_blocks

-- the first fault of a plan
unfoldable pub format_fault : FormatPlan → Option FormatFault
format_fault plan =
    if not (is_volume_name plan.name.items) then Some BadName
    else (if not (is_volume_size plan.blocks) then Some BadSize
    else (if not (are_node_counts plan) then Some BadNodes
    else (if not (has_room (layout_of plan)) then Some NoRoom else None)))

-- ---- what a plan without fault gives

-- the bounds that the blocks' numbers need
pub record IsLayout (volume : Layout) : Type 0 where
  pub name : length volume.name ≤ 27
  pub blocks : volume.blocks ≤ 4194304
  pub start : volume.start ≤ 19
  pub factor : volume.factor ≤ 65
  pub room : used_blocks volume ≤ volume.allocation_blocks
  pub some_extents : 1 ≤ volume.extents.nodes
  pub some_catalog : 2 ≤ volume.catalog.nodes
  pub nodes : volume.start + volume.extents.nodes + volume.catalog.nodes + 2 ≤ volume.blocks

-- this is the plan's first fault, or it has none and memory was refused
abbrev pub IsFormatFault : FormatPlan → FormatFault → Type 0
IsFormatFault plan fault = ((fault ≡ Memory) × (format_fault plan ≡ None)) ⊎ (format_fault plan ≡ Some fault)

-- the plan has no fault, and its parts lie so
abbrev pub IsLaidOut : FormatPlan → Layout → Type 0
IsLaidOut plan volume = (format_fault plan ≡ None) × (volume ≡ layout_of plan)

-- the parts of some planned volume lie so
abbrev pub IsPlanned : Layout → Type 0
IsPlanned volume = ∥ ((plan : FormatPlan) × (plan.now < 2 ^ 32) × IsLaidOut plan volume) ∥₁

-- this is the plan's first fault
abbrev pub HasFault : FormatPlan → FormatFault → Type 0
HasFault plan fault = format_fault plan ≡ Some fault

-- what is found are the files of so many nodes, or nothing where they have no room in so many allocation blocks
abbrev pub FindsFiles : ℕ → ℕ → ℕ → ℕ → Option (TreeFile × TreeFile) → Type 0
FindsFiles factor room extents catalog found =
    SomeIff found (IsTrue (nat_le (file_blocks factor extents + file_blocks factor catalog) room))
    (tree_file factor extents, tree_file factor catalog)
