-- Laws of this crate, each by the laws that it stands on.
use Rattle.hfs_items.proofs.ToldRowLemmas.{catalogs_tell_tables as catalogs_tell_tables-proved}
use Rattle.hfs_items.proofs.LawTypes.{CatalogsTellTables}
use Rattle.hfs_items.proofs.QueryLawsProved.{catalog_answers-entries}
use Rattle.hfs_check.proofs.LawsProved.{catalog_is_sound}
use Rattle.hfs_catalog.proofs.CatalogLawsProved.{sound_is_lawful}

-- The rows of a sound volume's catalog are those that are told of the volume's table.
pub catalogs_tell_tables : CatalogsTellTables
catalogs_tell_tables = catalogs_tell_tables-proved catalog_answers-entries catalog_is_sound sound_is_lawful
