-- That the counts which calls write have room in their fields. Each statement is what a function of src/bounds.rt ensures.
use Rattle.std.specs.Prelude.{◌≡◌, ◌≢◌, ℕ, ◌+◌, ◌<◌, ◌≤◌, ◌^◌, not, ◌&&◌, ◌==◌, List, Ok}
use Rattle.hfs_fields.specs.declared.mdb.Mdb.{Mdb}
use Rattle.hfs_fields.specs.Records.{is_dir, is_file, dir_record_of}
use Rattle.hfs_btree.specs.Header.{header_in}
use Rattle.hfs_catalog.specs.Records.{Record}
use Rattle.hfs_model.specs.Choices.{to_create, to_delete, to_move}
use Rattle.hfs_check.specs.Parts.{Blocks, mdb_in, catalog_nodes, catalog_in}
use Rattle.hfs_check.specs.Sound.{AreBlocksSound}
use Rattle.hfs_check.specs.VolumeOf.{volume_in}
use Rattle.hfs_record_edits.specs.Changes.{IsFolderWith}
use Rattle.hfs_record_edits.specs.Swaps.{one_if}
use Rattle.hfs_record_edits.specs.SettingLaws.{IsChoice}

-- one more item of this folder has room in each count
pub record HasRoomForOne (mdb : Mdb) (dir : ℕ) (r : Record) : Type 0 where
  pub next_id : mdb.next_id ≢ 4294967295
  pub files : mdb.files + 1 < 2 ^ 32
  pub folders : mdb.folders + 1 < 2 ^ 32
  pub root_files : mdb.root_files + one_if (dir == 2) < 2 ^ 16
  pub root_folders : mdb.root_folders + one_if (dir == 2) < 2 ^ 16
  pub valence : (dir_record_of r.1).valence + 1 < 2 ^ 16

-- where the header record's number of leaf records is one of four bytes, as read from a block
abbrev pub CreationFits : Type 0
CreationFits =
    (total dir id : ℕ) (name : List ℕ) (r : Record) (old : Blocks) → AreBlocksSound total old → (header_in (catalog_nodes old)).records < 2 ^ 32
    → to_create (volume_in old) dir name ≡ Ok id → IsFolderWith (catalog_in old) dir r → HasRoomForOne (mdb_in old) dir r

-- an item of this folder is counted in each count of its kind
pub record CountsItem (mdb : Mdb) (dir : ℕ) (item r : Record) : Type 0 where
  pub files : one_if (is_file item.1) ≤ mdb.files
  pub folders : one_if (is_dir item.1) ≤ mdb.folders
  pub root_files : one_if (is_file item.1 && (dir == 2)) ≤ mdb.root_files
  pub root_folders : one_if (is_dir item.1 && (dir == 2)) ≤ mdb.root_folders
  pub valence : 1 ≤ (dir_record_of r.1).valence

abbrev pub RemovalFits : Type 0
RemovalFits =
    (total dir : ℕ) (name : List ℕ) (item r : Record) (old : Blocks) → AreBlocksSound total old → IsChoice old (to_delete (volume_in old) dir name) item
    → IsFolderWith (catalog_in old) dir r → CountsItem (mdb_in old) dir item r

-- the counts of the root have room for an item that comes, and count one that goes; so do the valences of the folders that it goes
-- from and to
pub record CountsMove (mdb : Mdb) (from to : ℕ) (item r1 r2 : Record) : Type 0 where
  pub root_files : mdb.root_files + one_if (not (is_dir item.1) && (to == 2)) < 2 ^ 16
  pub root_folders : mdb.root_folders + one_if (is_dir item.1 && (to == 2)) < 2 ^ 16
  pub files_left : one_if (not (is_dir item.1) && (from == 2)) ≤ mdb.root_files
  pub folders_left : one_if (is_dir item.1 && (from == 2)) ≤ mdb.root_folders
  pub first : 1 ≤ (dir_record_of r1.1).valence
  pub second : (dir_record_of r2.1).valence + 1 < 2 ^ 16

abbrev pub MoveFits : Type 0
MoveFits =
    (total dir new_dir : ℕ) (name : List ℕ) (item r1 r2 : Record) (old : Blocks) → AreBlocksSound total old → IsChoice old (to_move (volume_in old) dir name new_dir) item
    → IsFolderWith (catalog_in old) dir r1 → IsFolderWith (catalog_in old) new_dir r2 → CountsMove (mdb_in old) dir new_dir item r1 r2
