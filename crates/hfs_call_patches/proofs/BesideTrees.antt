-- Blocks of a sound volume that no call changes, since no tree's file has their allocation block.
use Rattle.std.proofs.Common.{◌≡◌, ℕ, ◌+◌, ◌<◌, ◌≤◌, ◌++◌, arith}
use Rattle.hfs_fields.specs.declared.mdb.Mdb.{Mdb}
use Rattle.hfs_fields.specs.Each.{Each}
use Rattle.hfs_fields.proofs.ElementLemmas.{each-append}
use Rattle.hfs_btree.specs.Sound.{IsOther}
use Rattle.hfs_btree_edits.proofs.ApartLemmas.{each-take}
use Rattle.hfs_space.specs.Bitmap.{bitmap_len}
use Rattle.hfs_space.specs.Extents.{extent_blocks}
use Rattle.hfs_space.specs.Forks.{blocks_each}
use Rattle.hfs_space.specs.ForkLaws.{block_numbers}
use Rattle.hfs_space.specs.Owners.{owners}
use Rattle.hfs_check.specs.Parts.{Blocks, mdb_in, extents_nodes, catalog_extents, catalog_nodes}
use Rattle.hfs_check.specs.Sound.{AreBlocksSound}
use Rattle.hfs_check.specs.Agree.{bitmap_blocks, node_blocks, changing_blocks, IsBeside}
use Rattle.hfs_record_edits.proofs.Frames.{each_range, block_in, beside_file}

module _ (total : ℕ) (old : Blocks) (h : AreBlocksSound total old) where
  abbrev mdb : Mdb
  mdb = mdb_in old

  -- allocation blocks lie behind the bitmap
  pub far : (a j : ℕ) → mdb.bitmap_start + bitmap_len mdb.allocation_blocks ≤ block_in mdb a j
  far a j = omega (arith, h.mdb.bitmap_before)

  pub is_beside : (a j : ℕ) → j < blocks_each mdb → owners (extent_blocks (catalog_extents old)) a ≡ 0 → owners (extent_blocks mdb.extents_file) a ≡ 0 → IsBeside old (block_in mdb a j)
  unfolding changing_blocks
  is_beside a j low no_catalog no_extents =
      let n = block_in mdb a j in
      let behind = far a j in
      let apart : IsOther n 2 = λ (two : 2 ≡ n). (let third = h.mdb.bitmap_behind in omega (arith, behind, two, third)) in
      let bits : Each (IsOther n) (bitmap_blocks mdb) = each_range (IsOther n) mdb.bitmap_start (bitmap_len mdb.allocation_blocks) (λ k lt same. omega (arith, behind, lt, same)) in
      let one : Each (IsOther n) (node_blocks mdb mdb.extents_file (extents_nodes old)) = each-take _ _ (block_numbers mdb mdb.extents_file) (beside_file mdb mdb.extents_file a j low no_extents) in
      let two : Each (IsOther n) (node_blocks mdb (catalog_extents old) (catalog_nodes old)) = each-take _ _ (block_numbers mdb (catalog_extents old)) (beside_file mdb (catalog_extents old) a j low no_catalog) in (
        apart,
        each-append (IsOther n) (bitmap_blocks mdb ++ node_blocks mdb mdb.extents_file (extents_nodes old)) (node_blocks mdb (catalog_extents old) (catalog_nodes old))
            (each-append (IsOther n) (bitmap_blocks mdb) (node_blocks mdb mdb.extents_file (extents_nodes old)) bits one) two,
      )
