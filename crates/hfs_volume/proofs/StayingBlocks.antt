-- The blocks that calls change are the same in an image that agrees with another.
use Rattle.std.proofs.Common.{◌≡◌, ℕ, List, ◌∷◌, ◌++◌, map, take}
use Rattle.std.specs.List.{flat_map, range_with_len}
use Rattle.hfs_blocks.specs.Blocks.{run_of}
use Rattle.hfs_space.specs.Bitmap.{bitmap_len}
use Rattle.hfs_check.specs.Parts.{Blocks, mdb_in}
use Rattle.hfs_check.specs.Agree.{changing_blocks, KeepsBut}
use Rattle.hfs_volume.specs.Layout.{SameLayout}
use Rattle.hfs_check.proofs.Stays.{run_by}
use Rattle.hfs_volume.proofs.LayoutLemmas.{same_layout}

module _ (written : List ℕ) (old new : Blocks) (kept : KeepsBut written old new) where
  layout : SameLayout (mdb_in old) (mdb_in new)
  layout = same_layout old new kept.mdb

  pub same_changing : changing_blocks new ≡ changing_blocks old
  unfolding changing_blocks
  same_changing =
      let l = layout in
      λ i. 2 ∷ range_with_len (l.bitmap_start i) (bitmap_len (l.allocation_blocks i))
      ++ take (kept.extents.nodes i) (flat_map run_of (map (run_by (l.allocation_start i) (l.allocation_block_size i)) (l.extents_file i)))
      ++ take (kept.catalog.nodes i) (flat_map run_of (map (run_by (l.allocation_start i) (l.allocation_block_size i)) (kept.catalog_file i)))
