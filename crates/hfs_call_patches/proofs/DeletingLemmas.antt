-- Lemmas about the definitions of specs/Deleting.antt.
use Rattle.std.specs.Prelude.{◌≡◌, ℕ, ◌+◌, List, length}
use Rattle.hfs_fields.specs.Counts.{SameBesideCounts}
use Rattle.hfs_fields.specs.declared.mdb.Mdb.{Mdb}
use Rattle.hfs_fields.specs.Each.{Each}
use Rattle.hfs_btree.specs.Sound.{KeepsFrame}
use Rattle.hfs_btree.specs.Tree.{Store}
use Rattle.hfs_btree_checks.specs.Order.{index_keys}
use Rattle.hfs_space.specs.Bitmap.{clear_count}
use Rattle.hfs_record_edits.specs.Dropped.{HasDroppedOverflow}
use Rattle.hfs_catalog.specs.Sound.{IsIndexKeyName}
use Rattle.hfs_catalog.specs.Tree.{cat_keys, IsCatalogTree, catalog_of}
use Rattle.hfs_check.specs.Parts.{Blocks, mdb_in, extents_nodes, catalog_nodes, catalog_in}
use Rattle.hfs_record_edits.specs.Deletion.{EditsVolume, HasCleared}

-- the volume has these counts, the catalog of these nodes, the extents tree without this file's records, and the bits clear of these
-- allocation blocks, which were marked
pub record IsFileGone (id : ℕ) (freed : List ℕ) (counts : Mdb) (nodes : Store) (old new : Blocks) : Type 0 where
  pub edits : EditsVolume counts old new
  pub beside : SameBesideCounts (old 2) (new 2)
  pub tree : IsCatalogTree (catalog_nodes new)
  pub frame : KeepsFrame cat_keys (catalog_nodes old) (catalog_nodes new)
  pub index : Each IsIndexKeyName (index_keys cat_keys (catalog_nodes new))
  pub overflow : HasDroppedOverflow id (extents_nodes old) (extents_nodes new)
  pub cleared : HasCleared freed old new
  pub free : clear_count new (mdb_in old).bitmap_start (mdb_in old).allocation_blocks ≡ (mdb_in old).free_blocks + length freed
  pub content : catalog_in new ≡ catalog_of nodes
