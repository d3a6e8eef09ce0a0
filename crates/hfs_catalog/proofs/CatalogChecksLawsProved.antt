-- Laws of this crate, each by the laws that it stands on.
use Rattle.hfs_catalog.proofs.Agreed.{no_record_fault as no_record_fault-proved, no_name_fault as no_name_fault-proved, no_valence_fault as no_valence_fault-proved, no_count_fault as no_count_fault-proved}
use Rattle.hfs_catalog.proofs.CatalogChecksLawTypes.{NoRecordFault, NoIdFault, NoNameFault, NoPlaceFault, NoValenceFault, NoCountFault}
use Rattle.hfs_catalog.proofs.Ids.{no_id_fault as no_id_fault-proved}
use Rattle.hfs_catalog.proofs.Places.{no_place_fault as no_place_fault-proved}

-- The check of records finds no fault exactly where each is a record of the catalog.
pub no_record_fault : NoRecordFault
no_record_fault = no_record_fault-proved

-- The check of IDs finds no fault exactly where they are sound.
pub no_id_fault : NoIdFault
no_id_fault = no_id_fault-proved

-- The check of names finds no fault exactly where those of records and of index keys are sound.
pub no_name_fault : NoNameFault
no_name_fault = no_name_fault-proved

-- The check of order, parents and threads finds no fault exactly where they are sound and the index keys are in order.
pub no_place_fault : NoPlaceFault
no_place_fault = no_place_fault-proved

-- The check of valences finds no fault exactly where each folder has the number of its children.
pub no_valence_fault : NoValenceFault
no_valence_fault = no_valence_fault-proved

-- The check of counts finds no fault exactly where the master directory block has those of the catalog.
pub no_count_fault : NoCountFault
no_count_fault = no_count_fault-proved
