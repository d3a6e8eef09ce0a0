-- What calls that change items choose, by the master directory block and the records of a catalog.
use Rattle.std.specs.Prelude.{ℕ, ℤ, Bool, false, not, ◌&&◌, if◌then◌else◌, List, Option, Some, None, Result, Ok, Err}
use Rattle.std.specs.Option.{ok_or}
use Rattle.hfs_fields.specs.Names.{is_item_name}
use Rattle.hfs_fields.specs.Records.{is_dir, is_bit_set, file_record_of}
use Rattle.hfs_fields.specs.declared.key.CatKey.{CatKey}
use Rattle.hfs_fields.specs.declared.file_record.FileRecord.{FileRecord}
use Rattle.hfs_fields.specs.declared.mdb.Mdb.{Mdb}
use Rattle.hfs_model.specs.declared.codes.TheConstants.{BAD_NAME, NOT_FOUND, HARDWARE_LOCKED, FILE_LOCKED, SOFTWARE_LOCKED, NOT_A_FOLDER}
use Rattle.hfs_model.specs.Choices.{and_then}
use Rattle.hfs_catalog.specs.declared.item.ItemRecord.{ItemRecord}
use Rattle.hfs_catalog.specs.declared.item.ItemRecord.TheVariants.{Folder, File}
use Rattle.hfs_catalog.specs.declared.item.CatalogItem.{CatalogItem}
use Rattle.hfs_catalog.specs.Records.{Record, Catalog}
use Rattle.hfs_catalog.specs.Lookups.{child_named, catalog_item}
use Rattle.hfs_items.specs.Told.{is_folder}
use Rattle.hfs_btree.specs.Tree.{Store}
use Rattle.hfs_catalog.specs.Tree.{catalog_of}

-- what was chosen, seen otherwise
abbrev pub map_ok : {A B : Type 0} → (A → B) → Result A ℤ → Result B ℤ
map_ok f (Ok x) = Ok (f x)
map_ok f (Err code) = Err code

-- what was chosen, as an item
abbrev pub as_item : Result Record ℤ → Result CatalogItem ℤ
as_item chosen = map_ok catalog_item chosen

-- -44 of a volume that is locked by hardware, else -46 of one that is locked by software
abbrev pub lock_code : Mdb → Option ℤ
lock_code mdb = if is_bit_set 7 mdb.attributes.0 then Some HARDWARE_LOCKED else if is_bit_set 15 mdb.attributes.0 then Some SOFTWARE_LOCKED else None

abbrev pub unless_code : {A : Type 0} → Option ℤ → Result A ℤ → Result A ℤ
unless_code None r = r
unless_code (Some code) r = Err code

-- the record of the folder's item of that name: -44, -46, -37, -120, -43
abbrev pub child_to_change : Mdb → Catalog → ℕ → List ℕ → Result Record ℤ
child_to_change mdb catalog dir name = unless_code (lock_code mdb) (
    if not (is_item_name name) then Err BAD_NAME
    else if not (is_folder catalog dir) then Err NOT_A_FOLDER
    else ok_or (child_named catalog dir name) NOT_FOUND)

-- -43 of a folder
abbrev pub only_file : Record → Result Record ℤ
only_file r = if is_dir r.1 then Err NOT_FOUND else Ok r

-- -45 of a locked file
abbrev pub is_locked : Record → Bool
is_locked r = not (is_dir r.1) && is_bit_set 0 (file_record_of r.1).flags.0

abbrev pub unless_locked : Record → Result Record ℤ
unless_locked r = if is_locked r then Err FILE_LOCKED else Ok r

-- of a file
abbrev pub file_to_change : Mdb → Catalog → ℕ → List ℕ → Result Record ℤ
file_to_change mdb catalog dir name = and_then (child_to_change mdb catalog dir name) only_file

-- of a file that isn't locked
abbrev pub file_to_set : Mdb → Catalog → ℕ → List ℕ → Result Record ℤ
file_to_set mdb catalog dir name = and_then (file_to_change mdb catalog dir name) unless_locked

-- of a folder, or of a file that isn't locked
abbrev pub item_to_set : Mdb → Catalog → ℕ → List ℕ → Result Record ℤ
item_to_set mdb catalog dir name = and_then (child_to_change mdb catalog dir name) unless_locked

-- a file's key, and what its record says
abbrev pub file_part : Record → CatKey × FileRecord
file_part r = (r.0, file_record_of r.1)

-- what was chosen, as a file
abbrev pub as_file : Result Record ℤ → Result (CatKey × FileRecord) ℤ
as_file chosen = map_ok file_part chosen

-- whether it is a locked file
abbrev pub is_locked_body : ItemRecord → Bool
is_locked_body (Folder r) = false
is_locked_body (File r) = is_bit_set 0 r.flags.0

abbrev pub is_locked_item : CatalogItem → Bool
is_locked_item item = is_locked_body item.body

-- ---- in the nodes of a catalog

-- the folder's item of that name
abbrev pub chosen_child : Mdb → Store → ℕ → List ℕ → Result CatalogItem ℤ
chosen_child mdb nodes dir name = as_item (child_to_change mdb (catalog_of nodes) dir name)

-- the folder's file of that name
abbrev pub chosen_file : Mdb → Store → ℕ → List ℕ → Result (CatKey × FileRecord) ℤ
chosen_file mdb nodes dir name = as_file (file_to_change mdb (catalog_of nodes) dir name)
