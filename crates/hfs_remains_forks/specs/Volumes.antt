-- What is found of a sound volume that was opened, by the blocks that opening read.
use Rattle.std.specs.Prelude.{◌≡◌, ℕ, true, false, if◌then◌else◌, List, [], ◌∷◌, map, Some}
use Rattle.std.specs.List.{flat_map}
use Rattle.hfs_fields.specs.Records.{is_item}
use Rattle.hfs_catalog.specs.Records.{Catalog, Record}
use Rattle.hfs_check.specs.Parts.{catalog_in}
use Rattle.hfs_image.specs.Seen.{HasNoFault, IsOpenedBy}
use Rattle.hfs_image.specs.declared.opening.NeededVolume.{NeededVolume}
use Rattle.hfs_remains_forks.specs.Records.{thing_of}
use Rattle.hfs_remains.specs.CatalogRecords.{found}
use Rattle.hfs_remains.specs.Remains.{catalog_file_blocks, extents_file_blocks, remaining_overflow}
use Rattle.hfs_remains.specs.declared.catalog.FoundRecord.{FoundRecord}
use Rattle.hfs_source.specs.Sparse.{sparse}
use Rattle.hfs_remains_forks.specs.declared.finds.Finds.{Finds}
use Rattle.hfs_remains_forks.specs.Finds.{IsFoundIn}

-- a record, where it is an item's; it is not old
abbrev pub young_item : Record → List FoundRecord
young_item r = if is_item r.1 then found false r ∷ [] else []

-- the items of a catalog, in order
abbrev pub young_items : Catalog → List FoundRecord
young_items catalog = flat_map young_item catalog

-- by the directory in its place: the files of both trees, and the items of the catalog, which is right
pub record AreFindsOf (volume : NeededVolume) (finds : Finds) : Type 0 where
  pub directory_is : finds.directory ≡ 2
  pub mdb_is : finds.mdb ≡ volume.sound.mdb
  pub unsure_is : finds.is_unsure ≡ false
  pub total_is : finds.total ≡ volume.count
  pub overflow_is : finds.overflow.items ≡ remaining_overflow volume.count (sparse volume.read) volume.sound.mdb
  pub extents_file_is : finds.extents_file.items ≡ extents_file_blocks volume.count volume.sound.mdb
  pub catalog_file_is : finds.catalog_file.items ≡ catalog_file_blocks volume.count (sparse volume.read) volume.sound.mdb
  pub right_is : finds.is_catalog_right ≡ true
  pub items_are : finds.items.items ≡ young_items (catalog_in (sparse volume.read))
  pub places_are : finds.places ≡ map thing_of (young_items (catalog_in (sparse volume.read)))

-- this is found of each image without a fault of which the volume was opened
abbrev pub AreFindsOfOpened : NeededVolume → Finds → Type 0
AreFindsOfOpened volume finds = (image : List ℕ) → HasNoFault image → IsOpenedBy volume image → IsFoundIn image (Some finds)
