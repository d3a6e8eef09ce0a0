-- What is found of an image by its directory.
use Rattle.std.specs.Prelude.{◌≡◌, ℕ, Bool, ◌&&◌, not, List, map, Option, Some, None}
use Rattle.std.specs.Option.{option_map}
use Rattle.hfs_fields.specs.declared.mdb.Mdb.{Mdb}
use Rattle.hfs_blocks.specs.Blocks.{block_at, block_count}
use Rattle.hfs_space.specs.Extents.{Overflow}
use Rattle.hfs_check.specs.Parts.{Blocks}
use Rattle.hfs_remains_places.specs.declared.things.Thing.{Thing}
use Rattle.hfs_remains_places.specs.Things.{things_of}
use Rattle.hfs_remains_forks.specs.Records.{namings_of, thing_of}
use Rattle.hfs_remains.specs.declared.catalog.FoundRecord.{FoundRecord}
use Rattle.hfs_remains.specs.CatalogRecords.{catalog_nodes, is_catalog_right}
use Rattle.hfs_remains.specs.Directory.{directory_of, mdb_at, tree_begins}
use Rattle.hfs_remains.specs.Items.{items_of}
use Rattle.hfs_remains.specs.Remains.{catalog_file_blocks, catalog_file_extents, extents_file_blocks, remaining_overflow, remaining_records}
use Rattle.hfs_remains.specs.TreeFiles.{FileBlocks}
use Rattle.hfs_remains_forks.specs.declared.finds.Finds.{Finds}

-- the directory: the fields of the block that is taken for it
abbrev pub found_directory : List ℕ → Option Mdb
found_directory image = option_map (mdb_at (block_at image)) (directory_of image)

-- ---- of so many blocks, by a directory

-- neither tree begins where it says
abbrev pub is_unsure_by : ℕ → Blocks → Mdb → Bool
is_unsure_by total blocks mdb = not (tree_begins total blocks mdb mdb.extents_file) && not (tree_begins total blocks mdb mdb.catalog_file)

-- the catalog has its shape, and in each record one of the four kinds
abbrev pub is_right_by : ℕ → Blocks → Mdb → Bool
is_right_by total blocks mdb =
    is_catalog_right mdb (catalog_file_extents total blocks mdb) (catalog_nodes blocks mdb (catalog_file_blocks total blocks mdb))

-- the items among the records of the catalog
abbrev pub items_by : ℕ → Blocks → Mdb → List FoundRecord
items_by total blocks mdb = items_of (remaining_records total blocks mdb)

-- the items and the named folders, as they are put in their places
abbrev pub things_by : ℕ → Blocks → Mdb → List Thing
things_by total blocks mdb = things_of (map thing_of (items_by total blocks mdb)) (namings_of (remaining_records total blocks mdb))

-- all of these
pub record AreFindsBy (directory : Option ℕ) (total : ℕ) (blocks : Blocks) (finds : Finds) : Type 0 where
  pub directory_is : directory ≡ Some finds.directory
  pub unsure_is : finds.is_unsure ≡ is_unsure_by total blocks finds.mdb
  pub total_is : finds.total ≡ total
  pub overflow_is : finds.overflow.items ≡ remaining_overflow total blocks finds.mdb
  pub extents_file_is : finds.extents_file.items ≡ extents_file_blocks total finds.mdb
  pub catalog_file_is : finds.catalog_file.items ≡ catalog_file_blocks total blocks finds.mdb
  pub right_is : finds.is_catalog_right ≡ is_right_by total blocks finds.mdb
  pub items_are : finds.items.items ≡ items_by total blocks finds.mdb
  pub places_are : finds.places ≡ things_by total blocks finds.mdb

-- ---- of an image, by a directory

-- neither tree begins where it says
abbrev pub is_unsure : List ℕ → Mdb → Bool
is_unsure image mdb = is_unsure_by (block_count image) (block_at image) mdb

-- the records of the extents tree
abbrev pub found_overflow : List ℕ → Mdb → Overflow
found_overflow image mdb = remaining_overflow (block_count image) (block_at image) mdb

-- the blocks of both trees' files
abbrev pub found_extents_file : List ℕ → Mdb → FileBlocks
found_extents_file image mdb = extents_file_blocks (block_count image) mdb

abbrev pub found_catalog_file : List ℕ → Mdb → FileBlocks
found_catalog_file image mdb = catalog_file_blocks (block_count image) (block_at image) mdb

-- the catalog has its shape, and in each record one of the four kinds
abbrev pub is_found_right : List ℕ → Mdb → Bool
is_found_right image mdb = is_right_by (block_count image) (block_at image) mdb

-- the records of the catalog, and the items among them
abbrev pub found_records : List ℕ → Mdb → List FoundRecord
found_records image mdb = remaining_records (block_count image) (block_at image) mdb

abbrev pub found_items : List ℕ → Mdb → List FoundRecord
found_items image mdb = items_of (found_records image mdb)

-- the items and the named folders, as they are put in their places
abbrev pub found_things : List ℕ → Mdb → List Thing
found_things image mdb = things_by (block_count image) (block_at image) mdb

-- all of these
abbrev pub AreFinds : List ℕ → Finds → Type 0
AreFinds image finds = AreFindsBy (directory_of image) (block_count image) (block_at image) finds

-- what is found of an image, by its directory; nothing where it has none
abbrev pub IsFoundIn : List ℕ → Option Finds → Type 0
IsFoundIn image None = found_directory image ≡ None
IsFoundIn image (Some finds) = (found_directory image ≡ Some finds.mdb) × AreFinds image finds
