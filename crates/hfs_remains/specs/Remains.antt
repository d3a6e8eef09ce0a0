-- What is found of a volume by the directory that was taken.
use Rattle.std.specs.Prelude.{◌≡◌, ℕ, List}
use Rattle.hfs_fields.specs.declared.mdb.Mdb.{Mdb}
use Rattle.hfs_fields.specs.declared.extent.Extent.{Extent}
use Rattle.hfs_space.specs.Extents.{Overflow}
use Rattle.hfs_check.specs.Parts.{Blocks}
use Rattle.hfs_remains.specs.TreeFiles.{FileBlocks, file_blocks}
use Rattle.hfs_remains.specs.OverflowRecords.{overflow_records, catalog_extents}
use Rattle.hfs_remains.specs.CatalogRecords.{catalog_records}
use Rattle.hfs_remains.specs.declared.catalog.FoundRecord.{FoundRecord}
use Rattle.hfs_remains.specs.declared.remains.Remains.{Remains}

-- the blocks of the extents file
abbrev pub extents_file_blocks : ℕ → Mdb → FileBlocks
extents_file_blocks total mdb = file_blocks total mdb mdb.extents_file

-- the records of the extents tree
abbrev pub remaining_overflow : ℕ → Blocks → Mdb → Overflow
remaining_overflow total blocks mdb = overflow_records blocks mdb (extents_file_blocks total mdb)

-- all extents of the catalog file, and its blocks
abbrev pub catalog_file_extents : ℕ → Blocks → Mdb → List Extent
catalog_file_extents total blocks mdb = catalog_extents (remaining_overflow total blocks mdb) mdb

abbrev pub catalog_file_blocks : ℕ → Blocks → Mdb → FileBlocks
catalog_file_blocks total blocks mdb = file_blocks total mdb (catalog_file_extents total blocks mdb)

-- the catalog's records
abbrev pub remaining_records : ℕ → Blocks → Mdb → List FoundRecord
remaining_records total blocks mdb = catalog_records total blocks mdb (catalog_file_extents total blocks mdb) (catalog_file_blocks total blocks mdb)

-- all of these, in a volume of so many blocks
pub record AreRemains (total : ℕ) (blocks : Blocks) (mdb : Mdb) (remains : Remains) : Type 0 where
  pub extents_file : remains.extents_file.items ≡ extents_file_blocks total mdb
  pub overflow : remains.overflow.items ≡ remaining_overflow total blocks mdb
  pub catalog_file : remains.catalog_file.items ≡ catalog_file_blocks total blocks mdb
  pub found : remains.found.items ≡ remaining_records total blocks mdb
