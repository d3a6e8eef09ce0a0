-- What the checks of a catalog's records say. Each statement is what a function of src/laws.rt ensures.
use Rattle.std.specs.Prelude.{◌≡◌, ℕ, ◌↔◌, Bool, IsTrue, List, None}
use Rattle.hfs_fields.specs.declared.mdb.Mdb.{Mdb}
use Rattle.hfs_fields.specs.declared.key.CatKey.{CatKey}
use Rattle.hfs_fields.specs.Each.{Each}
use Rattle.hfs_catalog.specs.Records.{Catalog}
use Rattle.hfs_catalog.specs.Sound.{EachFolder, IsRecord, AreIdsSound, AreNamesSound, IsIndexKeyName, ArePlacesSound, HasValence, AreCountsSound}
use Rattle.hfs_catalog.specs.Faults.{record_fault, id_fault, name_fault, place_fault, valence_fault, count_fault}

-- ---- a check finds no fault exactly where its facts hold

abbrev pub NoRecordFault : Type 0
NoRecordFault = (catalog : Catalog) → (record_fault catalog ≡ None) ↔ Each IsRecord catalog

abbrev pub NoIdFault : Type 0
NoIdFault = (next : ℕ) (catalog : Catalog) → (id_fault next catalog ≡ None) ↔ AreIdsSound next catalog

abbrev pub NoNameFault : Type 0
NoNameFault = (index_keys : List CatKey) (catalog : Catalog) → (name_fault index_keys catalog ≡ None) ↔ (AreNamesSound catalog × Each IsIndexKeyName index_keys)

abbrev pub NoPlaceFault : Type 0
NoPlaceFault = (in_order : Bool) (catalog : Catalog) → (place_fault in_order catalog ≡ None) ↔ (ArePlacesSound catalog × IsTrue in_order)

abbrev pub NoValenceFault : Type 0
NoValenceFault = (catalog : Catalog) → (valence_fault catalog ≡ None) ↔ EachFolder (HasValence catalog) catalog

abbrev pub NoCountFault : Type 0
NoCountFault = (mdb : Mdb) (catalog : Catalog) → (count_fault mdb catalog ≡ None) ↔ AreCountsSound mdb catalog
