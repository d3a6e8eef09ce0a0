-- The place of a new item, which a call chooses, in a volume that is ready for it.
use Rattle.std.specs.Prelude.{◌≡◌, ◌<◌, ◌^◌, ℕ, ℤ, true, List, Result, Ok}
use Rattle.hfs_fields.specs.Names.{is_item_name}
use Rattle.hfs_fields.specs.Records.{dir_record_of}
use Rattle.hfs_fields.specs.declared.mdb.Mdb.{Mdb}
use Rattle.hfs_blocks.specs.declared.run.Run.{Run}
use Rattle.hfs_btree.specs.Header.{header_in}
use Rattle.hfs_model.specs.Choices.{to_create}
use Rattle.hfs_catalog.specs.Records.{Record}
use Rattle.hfs_record_edits.specs.Rooms.{IsInFile}
use Rattle.hfs_check.specs.Parts.{Blocks, mdb_in, catalog_nodes, catalog_in}
use Rattle.hfs_check.specs.Sound.{AreBlocksSound}
use Rattle.hfs_check.specs.VolumeOf.{volume_in}
use Rattle.hfs_record_edits.specs.Changes.{IsFolderWith}
use Rattle.hfs_call_patches.specs.TreeFiles.{IsCatalogFile}
use Rattle.hfs_call_patches.specs.declared.new_items.NewPlace.{NewPlace}

-- a call chooses the next ID for an item of that name under this folder
pub record IsPlace (old : Blocks) (chosen : Result ℕ ℤ) (dir : ℕ) (name : List ℕ) (place : NewPlace) : Type 0 where
  pub is : chosen ≡ Ok (mdb_in old).next_id
  pub of : Record
  pub parent : IsFolderWith (catalog_in old) dir of
  pub own_key : of.0 ≡ place.folder
  pub own_children : place.children ≡ (dir_record_of of.1).valence
  pub own_name : place.name ≡ name
  pub named : is_item_name name ≡ true

-- the volume is sound, its catalog's file lies in these runs, and a new item is to get this place
pub record IsReady (total : ℕ) (old : Blocks) (runs : List Run) (mdb : Mdb) (dir : ℕ) (place : NewPlace) : Type 0 where
  pub sound : AreBlocksSound total old
  pub file : IsCatalogFile runs total old
  pub directory : mdb ≡ mdb_in old
  pub chosen : IsPlace old (to_create (volume_in old) dir place.name) dir place.name place
  pub inside : IsInFile (catalog_nodes old)
  pub records : (header_in (catalog_nodes old)).records < 2 ^ 32

-- the same of the blocks that a value shows
abbrev pub IsReadyIn : {B : Type 0} → (B → ℕ) → (B → Blocks) → B → List Run → Mdb → ℕ → NewPlace → Type 0
IsReadyIn total blocks b runs mdb dir place = IsReady (total b) (blocks b) runs mdb dir place
