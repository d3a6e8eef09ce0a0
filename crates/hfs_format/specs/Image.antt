-- The image of a new volume, block by block.
use Rattle.std.specs.Prelude.{ℕ, ◌+◌, ◌-◌, ◌*◌, Bool, ◌||◌, ◌==◌, nat_lt, if◌then◌else◌, List, None, replicate, ◌≡◌}
use Rattle.std.proofs.Common.{Vec, Global}
use Rattle.std.specs.List.{flat_map, range_with_len}
use Rattle.hfs_format.specs.declared.format_plan.FormatPlan.{FormatPlan}
use Rattle.hfs_format.specs.declared.layout.Layout.{Layout}
use Rattle.hfs_format.specs.declared.planned_image.PlannedImage.{PlannedImage}
use Rattle.hfs_format.specs.Plan.{format_fault, layout_of, used_blocks}
use Rattle.hfs_format.specs.NewMdb.{new_mdb_block}
use Rattle.hfs_format.specs.BitRow.{bit_row}
use Rattle.hfs_btree.specs.declared.header.Header.{Header as TreeHeader}
use Rattle.hfs_format.specs.NewTrees.{empty_tree, one_leaf_tree, tree_block, root_leaf, node_bytes}

-- the master directory block, and its alternate in the last block but one
abbrev pub is_mdb_block : Layout → ℕ → Bool
is_mdb_block volume k = (k == 2) || (k + 2 == volume.blocks)

-- the extents file begins at allocation block 0, and the catalog follows
abbrev pub extents_start : Layout → ℕ
extents_start volume = volume.start

abbrev pub catalog_start : Layout → ℕ
catalog_start volume = volume.start + volume.extents.nodes

-- the two trees: the catalog's leaf has the root folder's record and its thread
abbrev pub extents_tree : Layout → TreeHeader
extents_tree volume = empty_tree 7 volume.extents.nodes

abbrev pub catalog_tree : Layout → TreeHeader
catalog_tree volume = one_leaf_tree 37 volume.catalog.nodes 2

-- node j of the catalog file
abbrev pub catalog_block : Layout → ℕ → List ℕ
catalog_block volume j = if j == (catalog_tree volume).root then node_bytes (root_leaf volume) else tree_block (catalog_tree volume) j

-- block k of the volume: after two boot blocks and the master directory block, the bitmap begins at block 3
unfoldable pub new_block : Layout → ℕ → List ℕ
new_block volume k =
    if is_mdb_block volume k then new_mdb_block volume
    else (if nat_lt k 3 then replicate 512 0
    else (if nat_lt k (extents_start volume) then bit_row (used_blocks volume) (512 * (k - 3)) 512
    else (if nat_lt k (catalog_start volume) then tree_block (extents_tree volume) (k - extents_start volume)
    else catalog_block volume (k - catalog_start volume))))

-- the blocks one after the other
unfoldable pub volume_image : Layout → List ℕ
volume_image volume = flat_map (new_block volume) (range_with_len 0 volume.blocks)

-- the image of the planned volume
abbrev pub new_image : FormatPlan → List ℕ
new_image plan = volume_image (layout_of plan)

-- the plan has no fault, and this is its volume's image
abbrev pub IsNewImage : FormatPlan → Vec ℕ Global → Type 0
IsNewImage plan image = (format_fault plan ≡ None) × (image.items ≡ new_image plan)

-- the bytes of an image whose blocks are made one by one
abbrev pub image_bytes : PlannedImage → List ℕ
image_bytes image = volume_image image.volume

-- the plan has no fault, and this is its volume's image
abbrev pub IsImageOf : FormatPlan → PlannedImage → Type 0
IsImageOf plan image = (format_fault plan ≡ None) × (image_bytes image ≡ new_image plan)
