-- What holds of the definitions. Each statement is what a function of src/laws.rt ensures.
use Rattle.std.specs.Prelude.{◌≡◌, ℕ}
use Rattle.hfs_model.specs.Children.{entries_of}
use Rattle.hfs_check.specs.Parts.{Blocks, catalog_in}
use Rattle.hfs_check.specs.Sound.{AreBlocksSound}
use Rattle.hfs_check.specs.VolumeOf.{volume_in}
use Rattle.hfs_items.proofs.QueriesLaws.{AreWholeBlocks}
use Rattle.hfs_items.specs.ToldRows.{told_rows}
use Rattle.hfs_items.specs.Levels.{catalog_rows}

-- the rows of a sound volume's catalog are those that are told of the volume
abbrev pub CatalogsTellTables : Type 0
CatalogsTellTables =
    (total : ℕ) (blocks : Blocks) → AreWholeBlocks total blocks → AreBlocksSound total blocks → catalog_rows (catalog_in blocks) ≡ told_rows (entries_of (volume_in blocks))
