-- Where Create and DirCreate put a new item, by the master directory block and the records of a catalog.
use Rattle.std.specs.Prelude.{◌≡◌, ℕ, ℤ, Bool, not, ◌||◌, ◌==◌, nat_lt, is_some, if◌then◌else◌, List, Result, Ok, Err}
use Rattle.std.specs.Option.{option_map_or}
use Rattle.std.specs.Result.{MatchResult}
use Rattle.hfs_fields.specs.Names.{is_item_name}
use Rattle.hfs_fields.specs.declared.mdb.Mdb.{Mdb}
use Rattle.hfs_model.specs.declared.codes.TheConstants.{FOLDER_FULL, BAD_NAME, DUPLICATE, NOT_A_FOLDER}
use Rattle.hfs_catalog.specs.declared.item.ItemRecord.{ItemRecord}
use Rattle.hfs_catalog.specs.declared.item.ItemRecord.TheVariants.{Folder, File}
use Rattle.hfs_catalog.specs.declared.item.CatalogItem.{CatalogItem}
use Rattle.hfs_catalog.specs.Records.{Record, Catalog}
use Rattle.hfs_catalog.specs.Lookups.{catalog_item, child_named}
use Rattle.hfs_check.specs.Parts.{Blocks}
use Rattle.hfs_items.specs.Told.{folder_with}
use Rattle.hfs_btree.specs.Tree.{Store}
use Rattle.hfs_btree_edits.specs.Entries.{IsPlaceOf}
use Rattle.hfs_catalog.specs.Tree.{cat_keys}
use Rattle.hfs_call_edits.specs.Choosing.{lock_code, unless_code, map_ok}
use Rattle.hfs_call_patches.specs.declared.new_items.NewPlace.{NewPlace}
use Rattle.hfs_call_patches.specs.declared.new_items.FoundPlace.{FoundPlace}
use Rattle.hfs_call_patches.specs.ReadyPlaces.{IsPlace}
use Rattle.hfs_model.specs.Choices.{to_create}
use Rattle.hfs_check.specs.VolumeOf.{volume_in}

-- how many children a folder's record says that it has; a file has none
abbrev pub children_in : ItemRecord → ℕ
children_in (Folder r) = r.valence
children_in (File r) = 0

abbrev pub place_under : List ℕ → CatalogItem → NewPlace
place_under name folder = record { name = name; folder = folder.key; children = children_in folder.body }

-- no room for one more child, or no ID for it
abbrev pub is_full : Mdb → CatalogItem → Bool
is_full mdb folder = not (nat_lt (children_in folder.body) 65535) || (mdb.next_id == 4294967295)

-- under this folder: -48, -33
abbrev pub place_in : Mdb → Catalog → ℕ → List ℕ → Record → Result NewPlace ℤ
place_in mdb catalog dir name r =
    if is_some (child_named catalog dir name) then Err DUPLICATE
    else if is_full mdb (catalog_item r) then Err FOLDER_FULL
    else Ok (place_under name (catalog_item r))

-- -44 or -46, -37, -120, -48, -33
abbrev pub new_place : Mdb → Catalog → ℕ → List ℕ → Result NewPlace ℤ
new_place mdb catalog dir name = unless_code (lock_code mdb) (
    if not (is_item_name name) then Err BAD_NAME
    else option_map_or (place_in mdb catalog dir name) (folder_with catalog dir) (Err NOT_A_FOLDER))

-- ---- and where the record of its folder is

-- without it
abbrev pub place_found : Result FoundPlace ℤ → Result NewPlace ℤ
place_found found = map_ok (λ f. f.place) found

-- it is there in these nodes of a catalog
abbrev pub IsFolderFound : Store → FoundPlace → Type 0
IsFolderFound nodes f = IsPlaceOf cat_keys nodes f.place.folder f.folder_at

-- ---- on the blocks of a volume

-- the place that a call chooses, or the code that refuses it
abbrev pub ChoosesPlace : Blocks → Result ℕ ℤ → ℕ → List ℕ → Result NewPlace ℤ → Type 0
ChoosesPlace old chosen dir name result = MatchResult result (IsPlace old chosen dir name) (λ code. chosen ≡ Err code)

-- that of Create and of DirCreate
abbrev pub ChoosesNewPlace : Blocks → ℕ → List ℕ → Result NewPlace ℤ → Type 0
ChoosesNewPlace old dir name result = ChoosesPlace old (to_create (volume_in old) dir name) dir name result
