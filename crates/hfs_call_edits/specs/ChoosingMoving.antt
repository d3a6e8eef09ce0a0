-- What CatMove chooses.
use Rattle.std.specs.Prelude.{◌≡◌, ℕ, zero, suc, ◌+◌, ℤ, pos, Bool, true, false, not, ◌&&◌, ◌||◌, ◌==◌, nat_lt, is_some, if◌then◌else◌, List, Option, Result, Ok, Err}
use Rattle.std.specs.Ordering.{int_eq}
use Rattle.std.specs.Option.{option_map, option_map_or, ok_or}
use Rattle.std.specs.Result.{MatchResult}
use Rattle.hfs_fields.specs.Names.{is_item_name}
use Rattle.hfs_fields.specs.Records.{dir_record_of}
use Rattle.hfs_fields.specs.declared.mdb.Mdb.{Mdb}
use Rattle.hfs_model.specs.declared.codes.TheConstants.{FOLDER_FULL, BAD_NAME, DUPLICATE, NOT_A_FOLDER, BAD_MOVE}
use Rattle.hfs_model.specs.Choices.{and_then, to_move}
use Rattle.hfs_catalog.specs.declared.item.ItemRecord.{ItemRecord}
use Rattle.hfs_catalog.specs.declared.item.ItemRecord.TheVariants.{Folder, File}
use Rattle.hfs_catalog.specs.declared.item.CatalogItem.{CatalogItem}
use Rattle.hfs_catalog.specs.Records.{Record, Catalog}
use Rattle.hfs_catalog.specs.Lookups.{catalog_item, child_named}
use Rattle.hfs_check.specs.Parts.{Blocks}
use Rattle.hfs_check.specs.VolumeOf.{volume_in}
use Rattle.hfs_items.specs.Told.{folder_with}
use Rattle.hfs_call_patches.specs.declared.valences.FolderPlace.{FolderPlace}
use Rattle.hfs_call_patches.specs.declared.moving.Moving.{Moving}
use Rattle.hfs_call_edits.specs.Choosing.{map_ok, child_to_change}
use Rattle.hfs_call_edits.specs.ChoosingRenaming.{own_id}
use Rattle.hfs_call_patches.specs.Moving.{IsMoving}
use Rattle.hfs_btree.specs.Tree.{Store}
use Rattle.hfs_catalog.specs.Tree.{catalog_of}

-- ---- offspring, upwards

-- whether up is at most n parents above the folder id
abbrev pub up_by_folders : Catalog → ℕ → ℕ → ℕ → Bool
up_by_folders catalog zero id up = id == up
up_by_folders catalog (suc n) id up = (id == up) || option_map_or (λ (r : Record). up_by_folders catalog n r.0.parent up) (folder_with catalog id) false

-- no chain of parents is longer
abbrev pub most_steps : Mdb → ℕ
most_steps mdb = mdb.files + mdb.folders + 1

-- ---- the choice by records

-- where a folder is, and the number of its children
abbrev pub place_of : Record → FolderPlace
place_of r = record { key = r.0; valence = (dir_record_of r.1).valence }

abbrev pub folder_place : Catalog → ℕ → Option FolderPlace
folder_place catalog dir = option_map place_of (folder_with catalog dir)

abbrev pub is_folder_body : ItemRecord → Bool
is_folder_body (Folder r) = true
is_folder_body (File r) = false

abbrev pub is_folder_item : CatalogItem → Bool
is_folder_item item = is_folder_body item.body

-- the item under another folder
abbrev pub moving : CatalogItem → FolderPlace → FolderPlace → ℕ → Moving
moving item left entered new_dir = record {
  item = record { id = own_id item; from = item.key; to = record { parent = new_dir; name = item.key.name } };
  folder = is_folder_item item;
  left = left;
  entered = entered;
}

-- -122, -48, -33 of a folder that is there
abbrev pub moving_into : Catalog → ℕ → CatalogItem → List ℕ → FolderPlace → ℕ → FolderPlace → Result Moving ℤ
moving_into catalog steps item name left new_dir entered =
    if is_folder_item item && up_by_folders catalog steps new_dir (own_id item) then Err BAD_MOVE
    else if is_some (child_named catalog new_dir name) then Err DUPLICATE
    else if not (nat_lt entered.valence 65535) then Err FOLDER_FULL
    else Ok (moving item left entered new_dir)

-- -120 of the new folder, and then these
abbrev pub moving_to : Catalog → ℕ → CatalogItem → List ℕ → FolderPlace → ℕ → Result Moving ℤ
moving_to catalog steps item name left new_dir = and_then (ok_or (folder_place catalog new_dir) NOT_A_FOLDER) (moving_into catalog steps item name left new_dir)

-- of the folder's item of that name
abbrev pub item_to_move : Mdb → Catalog → ℕ → List ℕ → ℕ → Result Moving ℤ
item_to_move mdb catalog dir name new_dir = and_then (map_ok catalog_item (child_to_change mdb catalog dir name)) (λ item.
    if not (is_item_name name) then Err BAD_NAME
    else and_then (ok_or (folder_place catalog dir) NOT_A_FOLDER) (λ left. moving_to catalog (most_steps mdb) item name left new_dir))

-- ---- the item that CatMove chooses

-- CatMove is refused with this code
pub record IsMoveRefused (old : Blocks) (dir : ℕ) (name : List ℕ) (new_dir : ℕ) (code : ℤ) : Type 0 where
  pub refused : to_move (volume_in old) dir name new_dir ≡ Err code
  pub other : int_eq code (pos 0) ≡ false

abbrev pub ChoosesMoving : Blocks → ℕ → List ℕ → ℕ → Result Moving ℤ → Type 0
ChoosesMoving old dir name new_dir result = MatchResult result (λ m. IsMoving old dir name new_dir m) (λ code. IsMoveRefused old dir name new_dir code)

-- a move of an item to another folder, in the nodes of a catalog
abbrev pub moving_within : Store → ℕ → CatalogItem → List ℕ → FolderPlace → ℕ → Result Moving ℤ
moving_within nodes steps item name left new_dir = moving_to (catalog_of nodes) steps item name left new_dir
