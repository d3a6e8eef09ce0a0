-- Laws of this crate, each by the laws that it stands on.
use Rattle.hfs_items.proofs.Queries.{catalogs_are_sound, records_are_entries}
use Rattle.hfs_items.proofs.QueriesLaws.{CatalogsAreSound, RecordsAreEntries}
use Rattle.hfs_check.proofs.LawsProved.{trees_are_sound, catalog_is_sound}
use Rattle.hfs_catalog.proofs.CatalogLawsProved.{entries_are_records, named_are_records, records_are_children, valences_are_counted}

-- A sound volume has a sound catalog, and its records answer the queries of the volume.
pub catalog_answers-sound : CatalogsAreSound
catalog_answers-sound = catalogs_are_sound trees_are_sound catalog_is_sound

-- A sound volume has a sound catalog, and its records answer the queries of the volume.
pub catalog_answers-entries : RecordsAreEntries
catalog_answers-entries = records_are_entries catalog_is_sound entries_are_records named_are_records records_are_children valences_are_counted
