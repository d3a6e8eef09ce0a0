-- What holds of changes. Each statement is what a function of src/laws.rt ensures.
use Rattle.std.specs.Prelude.{◌≡◌, ◌≤◌, ℕ, List, []}
use Rattle.hfs_fields.specs.declared.mdb.Mdb.{Mdb}
use Rattle.hfs_fields.specs.Counts.{SameBesideCounts, with_counts}
use Rattle.hfs_fields.specs.Each.{Each}
use Rattle.hfs_btree.specs.Sound.{KeepsFrame}
use Rattle.hfs_btree_checks.specs.Order.{index_keys}
use Rattle.hfs_space.specs.Owners.{owned_blocks, owners}
use Rattle.hfs_space.specs.Sound.{AreForksSound}
use Rattle.hfs_catalog.specs.Tree.{cat_keys, IsCatalogTree}
use Rattle.hfs_catalog.specs.Sound.{IsIndexKeyName, AreCountsSound}
use Rattle.hfs_catalog.specs.Items.{items_in}
use Rattle.hfs_model.specs.declared.call.Call.{Call}
use Rattle.hfs_model.specs.Volume.{Items}
use Rattle.hfs_model.specs.Step.{step}
use Rattle.hfs_check.specs.Parts.{Blocks, mdb_in, overflow_in, catalog_nodes, catalog_in, owned_in}
use Rattle.hfs_check.specs.Sound.{AreBlocksSound}
use Rattle.hfs_check.specs.VolumeOf.{contents_in, volume_in}
use Rattle.hfs_check.specs.Agree.{KeepsBut}
use Rattle.hfs_record_edits.specs.Sound.{IsNearlySound}
use Rattle.hfs_record_edits.specs.OnBlocks.{EditsCatalog}

-- the edits of a call that changes the catalog alone: a sound tree over the same nodes, whose records are nearly those of a sound
-- catalog and hold the items that the step makes, with right counts, and whose forks own what was owned
pub record MakesStep (c : Call) (counts : Mdb) (old new : Blocks) : Type 0 where
  pub edits : EditsCatalog counts old new
  pub beside : SameBesideCounts (old 2) (new 2)
  pub tree : IsCatalogTree (catalog_nodes new)
  pub frame : KeepsFrame cat_keys (catalog_nodes old) (catalog_nodes new)
  pub index : Each IsIndexKeyName (index_keys cat_keys (catalog_nodes new))
  pub near : IsNearlySound (catalog_in new)
  pub items : Items
  pub held : items_in (contents_in new) (catalog_in new) ≡ items
  pub made : (step (volume_in old) c).0 ≡ record (volume_in old) { items = items; next_id = counts.next_id; changed = counts.modified }
  pub least : 16 ≤ counts.next_id
  pub numbers : AreCountsSound counts (catalog_in new)
  pub free : counts.free_blocks ≡ (mdb_in old).free_blocks
  pub forks : AreForksSound (with_counts counts (mdb_in old)) (overflow_in old) (catalog_in new)
  pub owned : (b : ℕ) → owners (owned_blocks (with_counts counts (mdb_in old)) (overflow_in old) (catalog_in new)) b ≡ owners (owned_in old) b

-- the volume is sound, keeps what calls keep except for these blocks, which the call wrote, and is the one that the step makes
pub record IsSteppedBut (written : List ℕ) (c : Call) (total : ℕ) (old new : Blocks) : Type 0 where
  pub sound : AreBlocksSound total new
  pub kept : KeepsBut written old new
  pub volume : volume_in new ≡ (step (volume_in old) c).0

-- of a call that writes no block of a fork
abbrev pub IsStepped : Call → ℕ → Blocks → Blocks → Type 0
IsStepped c total old new = IsSteppedBut [] c total old new

abbrev pub CatalogEditsAreSteps : Type 0
CatalogEditsAreSteps = (c : Call) (counts : Mdb) (total : ℕ) (old new : Blocks) → AreBlocksSound total old → MakesStep c counts old new → IsStepped c total old new
