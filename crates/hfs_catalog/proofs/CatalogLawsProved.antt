-- Laws of this crate, each by the laws that it stands on.
use Rattle.hfs_catalog.proofs.Held.{items_are_records as items_are_records-proved}
use Rattle.hfs_catalog.proofs.CatalogLawTypes.{ItemsAreRecords, SoundIsLawful, RecordsAreChildren, EntriesAreRecords, NamedAreRecords, ValencesAreCounted}
use Rattle.hfs_catalog.proofs.Lawful.{sound_is_lawful as sound_is_lawful-proved}
use Rattle.hfs_catalog.proofs.NameOrder.{records_are_children as records_are_children-proved}
use Rattle.hfs_model.proofs.ModelLawsProved.{children_are_one, counts_children}
use Rattle.hfs_catalog.proofs.Queries.{entries_are_records as entries_are_records-proved, named_are_records as named_are_records-proved, valences_are_counted as valences_are_counted-proved}

-- The item of an ID is that of the record with the ID.
pub items_are_records : ItemsAreRecords
items_are_records = items_are_records-proved

-- The items of a sound catalog, with a next ID of at least 16, are those of a lawful volume.
pub sound_is_lawful : SoundIsLawful
sound_is_lawful = sound_is_lawful-proved

-- The records under a folder, in the order of a sound catalog, are the folder's children in name order.
pub records_are_children : RecordsAreChildren
records_are_children = λ contents next catalog least h dir. records_are_children-proved contents next catalog h dir least children_are_one

-- Of a catalog's items the one with an ID is that of the record with the ID.
pub entries_are_records : EntriesAreRecords
entries_are_records = entries_are_records-proved

-- Of a sound catalog's items a folder's child of a name is that of the record under the folder and the name.
pub named_are_records : NamedAreRecords
named_are_records = named_are_records-proved

-- Of a sound catalog's items a folder has as many children as the catalog has records under it.
pub valences_are_counted : ValencesAreCounted
valences_are_counted = λ contents next catalog least h dir. valences_are_counted-proved contents next catalog least h dir children_are_one counts_children
