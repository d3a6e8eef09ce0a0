-- Lemmas about the definitions of specs/OnBlocks.antt.
use Rattle.std.specs.Prelude.{◌≡◌, ◌≤◌, ℕ}
use Rattle.hfs_fields.specs.declared.mdb.Mdb.{Mdb}
use Rattle.hfs_fields.specs.Counts.{SameBesideCounts, with_counts}
use Rattle.hfs_fields.specs.Each.{Each}
use Rattle.hfs_btree.specs.Sound.{KeepsFrame}
use Rattle.hfs_btree_checks.specs.Order.{index_keys}
use Rattle.hfs_space.specs.Owners.{owned_blocks, owners}
use Rattle.hfs_space.specs.Sound.{AreForksSound}
use Rattle.hfs_catalog.specs.Tree.{cat_keys, IsCatalogTree}
use Rattle.hfs_catalog.specs.Sound.{IsIndexKeyName, AreCountsSound, IsSoundCatalog}
use Rattle.hfs_check.specs.Parts.{Blocks, mdb_in, overflow_in, catalog_nodes, catalog_in, owned_in}
use Rattle.hfs_record_edits.specs.OnBlocks.{EditsCatalog}

-- what the edits of the catalog's tree and of the counts are asked to give: a sound tree over the same nodes, whose records are
-- those of a sound catalog with these counts, and whose forks own what was owned
pub record IsCatalogEdit (counts : Mdb) (old new : Blocks) : Type 0 where
  pub edits : EditsCatalog counts old new
  pub beside : SameBesideCounts (old 2) (new 2)
  pub tree : IsCatalogTree (catalog_nodes new)
  pub frame : KeepsFrame cat_keys (catalog_nodes old) (catalog_nodes new)
  pub index : Each IsIndexKeyName (index_keys cat_keys (catalog_nodes new))
  pub catalog : IsSoundCatalog counts.next_id (catalog_in new)
  pub least : 16 ≤ counts.next_id
  pub numbers : AreCountsSound counts (catalog_in new)
  pub free : counts.free_blocks ≡ (mdb_in old).free_blocks
  pub forks : AreForksSound (with_counts counts (mdb_in old)) (overflow_in old) (catalog_in new)
  pub owned : (b : ℕ) → owners (owned_blocks (with_counts counts (mdb_in old)) (overflow_in old) (catalog_in new)) b ≡ owners (owned_in old) b
