-- The queries of a volume, by the records of its catalog.
use Rattle.std.specs.Prelude.{◌≡◌, ℕ, ◌<◌, length}
use Rattle.hfs_model.specs.Children.{entries_of}
use Rattle.hfs_check.specs.Parts.{Blocks, catalog_nodes, catalog_in}
use Rattle.hfs_check.specs.Sound.{AreBlocksSound}
use Rattle.hfs_check.specs.VolumeOf.{contents_in, volume_in}
use Rattle.hfs_items.specs.Told.{IsCatalog}
use Rattle.hfs_items.specs.Queries.{AreEntries}

-- each of the first blocks has 512 bytes
abbrev pub AreWholeBlocks : ℕ → Blocks → Type 0
AreWholeBlocks total blocks = (n : ℕ) → n < total → length (blocks n) ≡ 512

-- the records of a sound volume's catalog answer those of the volume
abbrev pub RecordsAreEntries : Type 0
RecordsAreEntries =
    (total : ℕ) (blocks : Blocks) → AreWholeBlocks total blocks → AreBlocksSound total blocks
    → AreEntries (contents_in blocks) (catalog_in blocks) (entries_of (volume_in blocks))

-- the nodes of a sound volume's catalog are those of a sound catalog
abbrev pub CatalogsAreSound : Type 0
CatalogsAreSound = (total : ℕ) (blocks : Blocks) → AreBlocksSound total blocks → IsCatalog (catalog_nodes blocks)
