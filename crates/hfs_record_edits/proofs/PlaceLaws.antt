-- What the edits of calls ask of the catalog: that a key is free, and that a folder's record still stands. Each statement is what a
-- function of src/places.rt ensures.
use Rattle.std.specs.Prelude.{◌≡◌, ℕ, ◌≤◌, false, List, Option, Some, None, Ok}
use Rattle.std.specs.Ordering.{is_eq}
use Rattle.hfs_fields.specs.declared.key.CatKey.{CatKey}
use Rattle.hfs_fields.specs.Keys.{cat_cmp}
use Rattle.hfs_fields.specs.Members.{In}
use Rattle.hfs_btree.specs.Pairs.{lookup}
use Rattle.hfs_catalog.specs.Records.{Record, Catalog}
use Rattle.hfs_catalog.specs.Lookups.{thread_of}
use Rattle.hfs_model.specs.Choices.{to_create, to_delete, to_rename, to_move}
use Rattle.hfs_model.specs.FileIds.{to_create_file_id}
use Rattle.hfs_check.specs.Parts.{Blocks, mdb_in, catalog_in}
use Rattle.hfs_check.specs.Sound.{AreBlocksSound}
use Rattle.hfs_check.specs.VolumeOf.{volume_in}
use Rattle.hfs_record_edits.specs.Changes.{IsFolderWith}
use Rattle.hfs_record_edits.proofs.ChangesLaws.{ItemRekeyed}
use Rattle.hfs_record_edits.specs.Swaps.{Swaps}
use Rattle.hfs_record_edits.specs.SettingLaws.{IsChoice, with_name}
use Rattle.hfs_record_edits.specs.MoveLaws.{under_folder}
use Rattle.hfs_record_edits.specs.PlaceLaws.{BothStand}

-- ---- keys

-- no record stands under the key
abbrev pub IsFree : CatKey → Blocks → Type 0
IsFree key old = lookup cat_cmp key (catalog_in old) ≡ None

-- the ID of a folder is 2 or more
abbrev pub FolderIdIs : Type 0
FolderIdIs = (total dir : ℕ) (r : Record) (old : Blocks) → AreBlocksSound total old → IsFolderWith (catalog_in old) dir r → 2 ≤ dir

-- a new item's key is free
abbrev pub CreationIsFree : Type 0
CreationIsFree =
    (total dir id : ℕ) (name : List ℕ) (old : Blocks) → AreBlocksSound total old → to_create (volume_in old) dir name ≡ Ok id → IsFree (record { parent = dir; name = name }) old

-- there is no thread of the next ID
abbrev pub NextIsThreadless : Type 0
NextIsThreadless = (total : ℕ) (old : Blocks) → AreBlocksSound total old → thread_of (catalog_in old) (mdb_in old).next_id ≡ None

-- nor of a file that gets one
abbrev pub FileIsThreadless : Type 0
FileIsThreadless =
    (total dir : ℕ) (name : List ℕ) (r : Record) (old : Blocks) → AreBlocksSound total old → (c : IsChoice old (to_create_file_id (volume_in old) dir name) r)
    → thread_of (catalog_in old) c.id ≡ None

-- the key to which an item is moved is free
abbrev pub MoveIsFree : Type 0
MoveIsFree =
    (total dir new_dir : ℕ) (name : List ℕ) (r : Record) (old : Blocks) → AreBlocksSound total old → IsChoice old (to_move (volume_in old) dir name new_dir) r
    → IsFree (under_folder new_dir r).0 old

-- the key to which an item is renamed is free, unless it is equal in order to its own
abbrev pub RenameIsFree : Type 0
RenameIsFree =
    (total dir : ℕ) (name new_name : List ℕ) (r : Record) (old : Blocks) → AreBlocksSound total old → IsChoice old (to_rename (volume_in old) dir name new_name) r
    → is_eq (cat_cmp r.0 (with_name new_name r).0) ≡ false → IsFree (with_name new_name r).0 old

-- ---- records that stand as they did

-- a record that didn't go
abbrev pub StandsStill : Type 0
StandsStill = (went come : Option Record) (r : Record) (old new : Catalog) → Swaps went come old new → In r old → (went ≡ Some r → ⊥) → In r new

-- the folder's, where an item of it and its thread went
abbrev pub DeleteLeavesFolder : Type 0
DeleteLeavesFolder =
    (total dir : ℕ) (name : List ℕ) (item r : Record) (old : Blocks) (first second : Catalog) → AreBlocksSound total old
    → (c : IsChoice old (to_delete (volume_in old) dir name) item) → IsFolderWith (catalog_in old) dir r → Swaps (Some item) None (catalog_in old) first
    → Swaps (thread_of (catalog_in old) c.id) None first second → In r second

abbrev pub MoveLeavesFolders : Type 0
MoveLeavesFolders =
    (total dir new_dir : ℕ) (name : List ℕ) (item : Record) (turned : Option Record) (r1 r2 : Record) (old : Blocks) (second middle : Catalog) → AreBlocksSound total old
    → (c : IsChoice old (to_move (volume_in old) dir name new_dir) item) → IsFolderWith (catalog_in old) dir r1 → IsFolderWith (catalog_in old) new_dir r2
    → ItemRekeyed item (under_folder new_dir item) (catalog_in old) second → Swaps (thread_of (catalog_in old) c.id) turned second middle → BothStand r1 r2 middle
