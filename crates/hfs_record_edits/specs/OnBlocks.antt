-- What an edit of the catalog makes of a volume's blocks.
use Rattle.std.specs.Prelude.{◌≡◌, ◌≢◌, ℕ}
use Rattle.hfs_fields.specs.declared.mdb.Mdb.{Mdb}
use Rattle.hfs_fields.specs.Counts.{SameBesideCounts, with_counts}
use Rattle.hfs_fields.specs.Each.{Each}
use Rattle.hfs_btree.specs.Sound.{IsOther, KeepsFrame}
use Rattle.hfs_btree_checks.specs.Order.{index_keys}
use Rattle.hfs_catalog.specs.Tree.{cat_keys, IsCatalogTree}
use Rattle.hfs_catalog.specs.Sound.{IsIndexKeyName}
use Rattle.hfs_check.specs.Parts.{Blocks, mdb_in, catalog_extents, catalog_nodes}
use Rattle.hfs_check.specs.Agree.{node_blocks}

-- the master directory block has these counts, and no other block has changed but those of the catalog's nodes
pub record EditsCatalog (counts : Mdb) (old new : Blocks) : Type 0 where
  pub mdb : mdb_in new ≡ with_counts counts (mdb_in old)
  pub others : (n : ℕ) → n ≢ 2 → Each (IsOther n) (node_blocks (mdb_in old) (catalog_extents old) (catalog_nodes old)) → new n ≡ old n

-- ---- what the edits of the catalog's tree give

-- the counts are those of before, with another moment
abbrev pub at_time : ℕ → Mdb → Mdb
at_time now mdb = record mdb { modified = now }

-- a sound tree over the same nodes, and these counts
pub record HasTree (counts : Mdb) (old new : Blocks) : Type 0 where
  pub edits : EditsCatalog counts old new
  pub beside : SameBesideCounts (old 2) (new 2)
  pub tree : IsCatalogTree (catalog_nodes new)
  pub frame : KeepsFrame cat_keys (catalog_nodes old) (catalog_nodes new)
  pub index : Each IsIndexKeyName (index_keys cat_keys (catalog_nodes new))
