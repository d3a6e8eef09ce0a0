-- What the edits of a call that deletes a file make of a volume's blocks. Each statement of a law is what a function of src/deletion.rt
-- ensures.
use Rattle.std.specs.Prelude.{◌≡◌, ◌≢◌, ℕ, ◌+◌, ◌-◌, ◌*◌, ◌<◌, ◌≤◌, ◌==◌, true, false, List}
use Rattle.hfs_fields.specs.declared.mdb.Mdb.{Mdb}
use Rattle.hfs_fields.specs.Counts.{SameBesideCounts, with_counts}
use Rattle.hfs_fields.specs.Records.{is_file, file_record_of}
use Rattle.hfs_fields.specs.Each.{Each}
use Rattle.hfs_fields.specs.Members.{In}
use Rattle.hfs_btree.specs.Sound.{KeepsFrame}
use Rattle.hfs_btree_checks.specs.Order.{index_keys}
use Rattle.hfs_space.specs.Bitmap.{bitmap_len, is_used, clear_count}
use Rattle.hfs_space.specs.Owners.{owned_blocks, owners}
use Rattle.hfs_space.specs.Sound.{AreForksSound}
use Rattle.hfs_record_edits.specs.Dropped.{HasDroppedOverflow}
use Rattle.hfs_record_edits.specs.Overflows.{without_file}
use Rattle.hfs_catalog.specs.Records.{Record, Catalog}
use Rattle.hfs_catalog.specs.Tree.{cat_keys, IsCatalogTree}
use Rattle.hfs_catalog.specs.Sound.{IsIndexKeyName, AreCountsSound}
use Rattle.hfs_catalog.specs.Items.{items_in}
use Rattle.hfs_model.specs.declared.call.Call.{Call}
use Rattle.hfs_model.specs.Volume.{Items}
use Rattle.hfs_model.specs.Step.{step}
use Rattle.hfs_check.specs.Parts.{Blocks, mdb_in, extents_nodes, overflow_in, catalog_nodes, catalog_in, owned_in}
use Rattle.hfs_check.specs.Sound.{AreBlocksSound}
use Rattle.hfs_check.specs.VolumeOf.{contents_in, volume_in}
use Rattle.hfs_check.specs.Agree.{IsBeside}
use Rattle.hfs_record_edits.specs.Sound.{IsNearlySound}
use Rattle.hfs_record_edits.specs.Swaps.{one_if}
use Rattle.hfs_record_edits.specs.Laws.{IsStepped}

-- ---- blocks

-- the master directory block has these counts, and no other block has changed but the bitmap's and those of the nodes of both trees
pub record EditsVolume (counts : Mdb) (old new : Blocks) : Type 0 where
  pub mdb : mdb_in new ≡ with_counts counts (mdb_in old)
  pub others : (n : ℕ) → IsBeside old n → new n ≡ old n

-- the bits of these allocation blocks are clear, and no other bit in the bitmap's blocks has changed
pub record HasCleared (freed : List ℕ) (old new : Blocks) : Type 0 where
  pub clear : (b : ℕ) → 0 < owners freed b → is_used new (mdb_in old).bitmap_start b ≡ false
  pub others : (b : ℕ) → b < 4096 * bitmap_len (mdb_in old).allocation_blocks → owners freed b ≡ 0
      → is_used new (mdb_in old).bitmap_start b ≡ is_used old (mdb_in old).bitmap_start b

-- ---- records

-- the files are those of before, and the one with this ID is none of them
abbrev pub AreOtherFiles : ℕ → Catalog → Catalog → Type 0
AreOtherFiles id old new = (r : Record) → In r new → is_file r.1 ≡ true → In r old × ((file_record_of r.1).id ≢ id)

-- ---- the call

-- the edits of a call that deletes the file with this ID: sound trees over the same nodes, the extents tree without the file's records,
-- the catalog with nearly those of a sound one, which hold the items that the step makes; right counts; and the bits clear of the
-- blocks that only the file owned
pub record MakesDeletion (c : Call) (id : ℕ) (freed : List ℕ) (counts : Mdb) (old new : Blocks) : Type 0 where
  pub edits : EditsVolume counts old new
  pub beside : SameBesideCounts (old 2) (new 2)
  pub tree : IsCatalogTree (catalog_nodes new)
  pub frame : KeepsFrame cat_keys (catalog_nodes old) (catalog_nodes new)
  pub index : Each IsIndexKeyName (index_keys cat_keys (catalog_nodes new))
  pub given : 16 ≤ id
  pub overflow : HasDroppedOverflow id (extents_nodes old) (extents_nodes new)
  pub cleared : HasCleared freed old new
  pub near : IsNearlySound (catalog_in new)
  pub files : AreOtherFiles id (catalog_in old) (catalog_in new)
  pub items : Items
  pub held : items_in (contents_in old) (catalog_in new) ≡ items
  pub made : (step (volume_in old) c).0 ≡ record (volume_in old) { items = items; next_id = counts.next_id; changed = counts.modified }
  pub least : 16 ≤ counts.next_id
  pub numbers : AreCountsSound counts (catalog_in new)
  pub free : counts.free_blocks ≡ clear_count new (mdb_in old).bitmap_start (mdb_in old).allocation_blocks
  pub forks : AreForksSound (with_counts counts (mdb_in old)) (without_file id (overflow_in old)) (catalog_in new)
  pub owned : (b : ℕ) → owners (owned_blocks (with_counts counts (mdb_in old)) (without_file id (overflow_in old)) (catalog_in new)) b + owners freed b ≡ owners (owned_in old) b

-- then the volume is sound, keeps what calls keep, and is the one that the step makes
abbrev pub DeletionsAreSteps : Type 0
DeletionsAreSteps =
    (c : Call) (id : ℕ) (freed : List ℕ) (counts : Mdb) (total : ℕ) (old new : Blocks) → AreBlocksSound total old → MakesDeletion c id freed counts old new
    → IsStepped c total old new

-- ---- Delete of a file

-- the counts with one file fewer in this folder, and with so many free blocks
abbrev pub without_one_file : ℕ → ℕ → ℕ → Mdb → Mdb
without_one_file dir clear now mdb = record mdb { modified = now; free_blocks = clear; root_files = mdb.root_files - one_if (dir == 2); files = mdb.files - 1 }
