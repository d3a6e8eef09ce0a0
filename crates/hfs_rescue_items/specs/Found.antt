-- What was found of an image: paths, names, and what an item's own record tells.
use Rattle.std.specs.Prelude.{ℕ, false, nat_lt, if◌then◌else◌, List, [], ◌∷◌, length, slice_get, take, Option, Some, None}
use Rattle.std.specs.Option.{option_and_then}
use Rattle.hfs_catalog.specs.declared.item.CatalogItem.{CatalogItem}
use Rattle.hfs_catalog.specs.declared.item.ItemRecord.{ItemRecord}
use Rattle.hfs_catalog.specs.declared.item.ItemRecord.TheVariants.{Folder, File}
use Rattle.hfs_catalog.specs.Lookups.{catalog_item}
use Rattle.hfs_fields.specs.declared.key.CatKey.{CatKey}
use Rattle.hfs_fields.specs.declared.mdb.Mdb.{Mdb}
use Rattle.hfs_fields.specs.Records.{is_item}
use Rattle.hfs_model.specs.declared.reply.Info.{Info}
use Rattle.hfs_remains_places.specs.declared.things.Thing.{Thing}
use Rattle.hfs_remains_places.specs.Names.{names_to}
use Rattle.hfs_remains_places.specs.Paths.{payload_path}
use Rattle.hfs_items.specs.Told.{file_info, folder_info}
use Rattle.hfs_remains.specs.declared.catalog.FoundRecord.{FoundRecord}

-- the path of a thing below the payload; no text where there is none
abbrev pub path_at : List Thing → ℕ → List ℕ
path_at things i = if nat_lt i (length things) then payload_path things i else []

-- the characters of a name, in a field where they stand behind their number
abbrev pub field_name : List ℕ → List ℕ
field_name [] = []
field_name (len ∷ characters) = take len characters

-- the names that lead to a thing, from the root's down, the root's being the directory's where its item is lost; none below `=old` and `=lost`,
-- nor where there is no such thing
abbrev pub names_at : List Thing → Mdb → ℕ → List (List ℕ)
names_at things mdb i = if nat_lt i (length things) then names_to things (field_name mdb.volume_name) i else []

-- what a record tells; whether a file has a thread isn't looked for
abbrev pub record_info : CatKey → ItemRecord → Info
record_info key (Folder folder) = folder_info key folder
record_info key (File file) = file_info false key file

abbrev pub info_of : CatalogItem → Info
info_of item = record_info item.key item.body

-- what an item's own record tells of it
abbrev pub told : FoundRecord → Option Info
told found = if is_item found.entry.1 then Some (info_of (catalog_item found.entry)) else None

-- what item i tells; nothing where there is no such item
abbrev pub told_at : List FoundRecord → ℕ → Option Info
told_at items i = option_and_then told (slice_get items i)
