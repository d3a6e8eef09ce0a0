-- The rows of a sound image's catalog are those of its table.
use Rattle.std.proofs.Common.{◌≡◌, ℕ, List}
use Rattle.hfs_blocks.specs.Blocks.{block_at, block_count, length-block_at}
use Rattle.hfs_check.specs.VolumeOf.{volume_of}
use Rattle.hfs_items.proofs.LawsProved.{catalogs_tell_tables}
use Rattle.hfs_word_take.specs.Laws.{SoundCatalogsTellTables}

pub rows-told : SoundCatalogsTellTables
unfolding volume_of
rows-told image sound = catalogs_tell_tables (block_count image) (block_at image) (length-block_at image) sound.blocks
