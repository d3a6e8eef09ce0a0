-- The plan of a new volume.
use Rattle.std.specs.Prelude.{◌≡◌, ℕ, ◌<◌, ⊤, List, length, Option, Some, None}
use Rattle.hfs_format.specs.declared.format_plan.FormatPlan.{FormatPlan}
use Rattle.hfs_format.specs.declared.format_fault.FormatFault.TheVariants as format
use Rattle.hfs_format.specs.declared.planned_image.PlannedImage.{PlannedImage}
use Rattle.hfs_format.specs.Image.{IsImageOf}
use Rattle.hfs_format.specs.Plan.{HasFault, allocation_blocks, block_factor}
use Rattle.hfs_format.specs.declared.make_fault.MakeFault.{MakeFault}
use Rattle.hfs_format.specs.declared.make_fault.MakeFault.TheVariants.{BadName, BadSize, NoRoom, Memory}
use Rattle.hfs_format.specs.declared.new_volume.NewVolume.{NewVolume}
use Rattle.hfs_format.specs.declared.volume_size.VolumeSize.{VolumeSize}
use Rattle.hfs_format.specs.declared.items.NewItem.{NewItem}
use Rattle.hfs_format.specs.Catalogs.{catalog_nodes}
use Rattle.hfs_format.specs.ChosenSizes.{HasNoSize, IsChosenSize}
use Rattle.hfs_format.specs.Wanted.{tree_blocks}

-- how many nodes its catalog gets
abbrev pub nodes_of : NewVolume → ℕ
nodes_of volume = catalog_nodes (length volume.name.name) volume.items.now volume.catalog_times

-- its blocks are those of the size that is asked for, or else of the chosen one
abbrev pub IsSize : Option VolumeSize → ℕ → List NewItem → ℕ → Type 0
IsSize (Some size) nodes items blocks = blocks ≡ size.blocks
IsSize None nodes items blocks = IsChosenSize nodes items blocks

abbrev pub IsSizeFor : NewVolume → ℕ → ℕ → Type 0
IsSizeFor volume nodes blocks = IsSize volume.size nodes volume.items.now blocks

-- no size is chosen
abbrev pub LacksSize : Option VolumeSize → ℕ → List NewItem → Type 0
LacksSize (Some size) nodes items = ⊥
LacksSize None nodes items = HasNoSize nodes items

abbrev pub HasNoBlocks : NewVolume → ℕ → Type 0
HasNoBlocks volume nodes = LacksSize volume.size nodes volume.items.now

-- what the plan says of it
pub record IsPlanFor (volume : NewVolume) (plan : FormatPlan) : Type 0 where
  pub name : plan.name.items ≡ volume.name.name
  pub blocks : IsSizeFor volume (nodes_of volume) plan.blocks
  pub extents : plan.extents_nodes ≡ 8
  pub catalog : plan.catalog_nodes ≡ nodes_of volume
  pub moment : plan.now ≡ volume.moment

-- the image of such a plan
abbrev pub IsMadeFor : NewVolume → PlannedImage → Type 0
IsMadeFor volume image = (plan : FormatPlan) × IsPlanFor volume plan × IsImageOf plan image

-- the trees alone have no room in the size that is asked for, or no size holds all
abbrev pub HasNoRoom : Option VolumeSize → ℕ → List NewItem → Type 0
HasNoRoom (Some size) nodes items = allocation_blocks size.blocks < tree_blocks (block_factor size.blocks) nodes
HasNoRoom None nodes items = HasNoSize nodes items

-- a plan's own lack of room
abbrev pub IsFormatFault : FormatPlan → MakeFault → Type 0
IsFormatFault plan fault = (fault ≡ NoRoom) × HasFault plan format.NoRoom

abbrev pub IsPlanFault : NewVolume → MakeFault → Type 0
IsPlanFault volume NoRoom = HasNoRoom volume.size (nodes_of volume) volume.items.now
IsPlanFault volume Memory = ⊤
IsPlanFault volume BadName = ⊥
IsPlanFault volume BadSize = ⊥
