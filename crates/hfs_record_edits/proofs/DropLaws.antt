-- What else the edits of Delete make of a catalog, and what they leave. Each statement is what a function of src/deletion.rt ensures.
use Rattle.std.specs.Prelude.{◌≡◌, ℕ, ◌-◌, ◌≤◌, List}
use Rattle.hfs_fields.specs.declared.mdb.Mdb.{Mdb}
use Rattle.hfs_fields.specs.Records.{dir_record_of}
use Rattle.hfs_record_edits.specs.Dropped.{HasDroppedOverflow}
use Rattle.hfs_catalog.specs.Records.{Record, Catalog}
use Rattle.hfs_catalog.specs.Lookups.{thread_of}
use Rattle.hfs_model.specs.Choices.{to_delete}
use Rattle.hfs_check.specs.Parts.{Blocks, extents_nodes, catalog_extents, catalog_in}
use Rattle.hfs_check.specs.Sound.{AreBlocksSound}
use Rattle.hfs_check.specs.VolumeOf.{volume_in}
use Rattle.hfs_record_edits.specs.Changes.{folder_with}
use Rattle.hfs_record_edits.proofs.ChangesLaws.{HasDropped}
use Rattle.hfs_record_edits.specs.Deletion.{EditsVolume}
use Rattle.hfs_record_edits.proofs.RemovalLaws.{HasDroppedItem}
use Rattle.hfs_record_edits.specs.SettingLaws.{IsChoice}

-- an item that went by the catalog's edits left its folder, which has one child fewer
abbrev pub DroppedLeaves : Type 0
DroppedLeaves =
    (total now dir : ℕ) (name : List ℕ) (item r : Record) (old : Blocks) (new : Catalog) → AreBlocksSound total old → (c : IsChoice old (to_delete (volume_in old) dir name) item)
    → HasDroppedItem c.id dir item r now (catalog_in old) new
    → HasDropped c.id dir item (thread_of (catalog_in old) c.id) r (folder_with ((dir_record_of r.1).valence - 1) now r) (catalog_in old) new

-- the catalog's file stays where it is when another file's records leave the extents tree
abbrev pub DeletionLeavesFile : Type 0
DeletionLeavesFile =
    (counts : Mdb) (total id : ℕ) (old new : Blocks) → AreBlocksSound total old → EditsVolume counts old new → 16 ≤ id → HasDroppedOverflow id (extents_nodes old) (extents_nodes new)
    → catalog_extents new ≡ catalog_extents old
