-- What holds of changes. Each statement is what a function of src/laws.rt ensures.
use Rattle.std.specs.Prelude.{◌≡◌, ℕ}
use Rattle.hfs_fields.specs.declared.mdb.Mdb.{Mdb}
use Rattle.hfs_check.specs.Parts.{Blocks, catalog_extents}
use Rattle.hfs_check.specs.Sound.{AreBlocksSound}
use Rattle.hfs_record_edits.specs.OnBlocks.{EditsCatalog}

-- ---- the catalog's file

-- edits of the catalog leave its file where it is
abbrev pub CatalogFileStays : Type 0
CatalogFileStays = (counts : Mdb) (total : ℕ) (old new : Blocks) → AreBlocksSound total old → EditsCatalog counts old new → catalog_extents new ≡ catalog_extents old
