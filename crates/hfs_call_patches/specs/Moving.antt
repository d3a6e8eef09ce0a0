-- An item that CatMove chooses, and the step that it makes.
use Rattle.std.specs.Prelude.{◌≡◌, ℕ, ◌+◌, ◌<◌, ◌≤◌, ◌^◌, not, ◌&&◌, ◌==◌, List}
use Rattle.hfs_fields.specs.Records.{is_dir, dir_record_of}
use Rattle.hfs_fields.specs.declared.mdb.Mdb.{Mdb}
use Rattle.hfs_model.specs.declared.call.Call.TheVariants as call
use Rattle.hfs_model.specs.Choices.{to_move}
use Rattle.hfs_catalog.specs.Records.{Record}
use Rattle.hfs_check.specs.Parts.{Blocks, mdb_in, catalog_nodes, catalog_in}
use Rattle.hfs_check.specs.VolumeOf.{volume_in}
use Rattle.hfs_record_edits.specs.Swaps.{one_if}
use Rattle.hfs_record_edits.specs.Changes.{IsFolderWith}
use Rattle.hfs_record_edits.specs.Laws.{MakesStep}
use Rattle.hfs_record_edits.specs.MoveLaws.{under_folder, with_moved}
use Rattle.hfs_call_patches.specs.declared.valences.FolderPlace.{FolderPlace}
use Rattle.hfs_call_patches.specs.declared.moving.Moving.{Moving}
use Rattle.hfs_call_patches.specs.Rekeyings.{CanRekey, IsRekeyChoice}

-- ---- the item that CatMove chooses

-- a folder's record is in this place
pub record IsPlaceOf (old : Blocks) (dir : ℕ) (place : FolderPlace) (r : Record) : Type 0 where
  pub folder : IsFolderWith (catalog_in old) dir r
  pub key : r.0 ≡ place.key
  pub valence : (dir_record_of r.1).valence ≡ place.valence

-- CatMove chooses the item, which goes from one folder to the other
pub record IsMoving (old : Blocks) (dir : ℕ) (name : List ℕ) (new_dir : ℕ) (m : Moving) : Type 0 where
  pub choice : IsRekeyChoice old (to_move (volume_in old) dir name new_dir) (under_folder new_dir) m.item
  pub kind : is_dir choice.of.1 ≡ m.folder
  pub first : Record
  pub left : IsPlaceOf old dir m.left first
  pub second : Record
  pub entered : IsPlaceOf old new_dir m.entered second
  pub from_is : m.item.from.parent ≡ dir
  pub to_is : m.item.to.parent ≡ new_dir

-- ---- the step

-- the counts where the item was moved
abbrev pub counts_moved : Moving → ℕ → Mdb → Mdb
counts_moved m now mdb = with_moved m.folder m.item.from.parent m.item.to.parent now mdb

-- the counts of the root have room for the item, and count it where it goes
pub record FitsCounts (mdb : Mdb) (m : Moving) : Type 0 where
  pub root_files : mdb.root_files + one_if (not m.folder && (m.item.to.parent == 2)) < 2 ^ 16
  pub root_folders : mdb.root_folders + one_if (m.folder && (m.item.to.parent == 2)) < 2 ^ 16
  pub files_left : one_if (not m.folder && (m.item.from.parent == 2)) ≤ mdb.root_files
  pub folders_left : one_if (m.folder && (m.item.from.parent == 2)) ≤ mdb.root_folders

-- some CatMove chooses the item, and the catalog has room for it
pub record CanMove (old : Blocks) (m : Moving) : Type 0 where
  pub dir : ℕ
  pub name : List ℕ
  pub new_dir : ℕ
  pub is : IsMoving old dir name new_dir m
  pub can : CanRekey m.item (catalog_nodes old)
  pub fits : FitsCounts (mdb_in old) m
  pub some : 1 ≤ m.left.valence
  pub room : m.entered.valence + 1 < 2 ^ 16

-- wherever CatMove chooses that item, its step was made
abbrev pub MakesMove : Moving → ℕ → Blocks → Blocks → Type 0
MakesMove m now old new =
    (dir : ℕ) (name : List ℕ) (new_dir : ℕ) → IsMoving old dir name new_dir m → MakesStep (call.CatMove dir name new_dir now) (counts_moved m now (mdb_in old)) old new
