-- An image is sound exactly where no check fails.
use Rattle.std.proofs.Common.{ℕ, List, length}
use Rattle.hfs_fields.specs.Each.{Each}
use Rattle.hfs_blocks.specs.Blocks.{block_at, block_count}
use Rattle.hfs_space.specs.Sound.{AreForksSound, IsSpaceSound}
use Rattle.hfs_space.specs.Faults.{space_fault}
use Rattle.hfs_space.proofs.LawTypes.{NoForkFault, NoSpaceFault, OwnedAreWithin}
use Rattle.hfs_catalog.specs.Sound.{EachFolder, IsRecord, AreIdsSound, HasValence, AreCountsSound}
use Rattle.hfs_catalog.proofs.CatalogChecksLawTypes.{NoRecordFault, NoIdFault, NoValenceFault, NoCountFault}
use Rattle.hfs_check.specs.Parts.{Blocks, mdb_in, extents_nodes, overflow_in, catalog_extents, catalog_nodes, catalog_in, owned_in}
use Rattle.hfs_check.specs.Sound.{IsExtentsSound, IsCatalogFileSound, AreCatalogNamesSound, AreCatalogPlacesSound, AreBlocksSound, IsSound}
use Rattle.hfs_check.specs.Faults.{extents_counts, catalog_counts, trees_fault, records_fault, numbers_fault, blocks_fault, fault_of}
use Rattle.hfs_check.proofs.LawTypes.{NoLengthFault, NoMdbFault, NoExtentsFault, NoCatalogFault, NoCatalogNameFault, NoCatalogPlaceFault, NoBlocksFault}
use Rattle.hfs_check.proofs.Exact.{IsExact, alike, both, both_given, by_place}

-- what is known of the checks
pub record AreExact : Type 0 where
  pub mdb : NoMdbFault
  pub extents : NoExtentsFault
  pub catalog : NoCatalogFault
  pub records : NoRecordFault
  pub ids : NoIdFault
  pub names : NoCatalogNameFault
  pub places : NoCatalogPlaceFault
  pub valences : NoValenceFault
  pub counts : NoCountFault
  pub forks : NoForkFault
  pub space : NoSpaceFault
  pub within : OwnedAreWithin

abbrev AreTreesSound : Blocks → Type 0
AreTreesSound blocks = IsExtentsSound (mdb_in blocks) (extents_nodes blocks) × IsCatalogFileSound (mdb_in blocks) (catalog_extents blocks) (catalog_nodes blocks)

abbrev AreRecordsSound : Blocks → Type 0
AreRecordsSound blocks =
    Each IsRecord (catalog_in blocks)
    × (AreIdsSound (mdb_in blocks).next_id (catalog_in blocks)
    × (AreCatalogNamesSound (catalog_nodes blocks) (catalog_in blocks) × AreCatalogPlacesSound (catalog_nodes blocks) (catalog_in blocks)))

abbrev AreNumbersSound : Blocks → Type 0
AreNumbersSound blocks =
    EachFolder (HasValence (catalog_in blocks)) (catalog_in blocks)
    × (AreCountsSound (mdb_in blocks) (catalog_in blocks)
    × (AreForksSound (mdb_in blocks) (overflow_in blocks) (catalog_in blocks) × IsSpaceSound blocks (mdb_in blocks) (owned_in blocks)))

module _ (laws : AreExact) (blocks : Blocks) where
  trees : IsExact (trees_fault (extents_counts blocks) (catalog_counts blocks) blocks) (AreTreesSound blocks)
  unfolding trees_fault
  trees =
      both _ _ (by_place 3 _ (laws.extents (mdb_in blocks) (extents_nodes blocks)))
      (by_place 4 _ (laws.catalog (mdb_in blocks) (catalog_extents blocks) (catalog_nodes blocks)))

  records : IsExact (records_fault blocks) (AreRecordsSound blocks)
  unfolding records_fault
  records =
      both _ _ (by_place 5 _ (laws.records (catalog_in blocks)))
      (both _ _ (by_place 6 _ (laws.ids (mdb_in blocks).next_id (catalog_in blocks)))
      (both _ _ (by_place 7 _ (laws.names (catalog_nodes blocks) (catalog_in blocks))) (by_place 8 _ (laws.places (catalog_nodes blocks) (catalog_in blocks)))))

  space : AreTreesSound blocks → AreForksSound (mdb_in blocks) (overflow_in blocks) (catalog_in blocks) → IsExact (space_fault blocks (mdb_in blocks) (owned_in blocks)) (IsSpaceSound blocks (mdb_in blocks) (owned_in blocks))
  unfolding owned_in catalog_extents
  space files forks =
      laws.space blocks (mdb_in blocks) (owned_in blocks) (laws.within (mdb_in blocks) (overflow_in blocks) (catalog_in blocks) files.0.file files.1.file forks)

  numbers : AreTreesSound blocks → IsExact (numbers_fault blocks) (AreNumbersSound blocks)
  unfolding numbers_fault
  numbers files =
      both _ _ (by_place 9 _ (laws.valences (catalog_in blocks)))
      (both _ _ (by_place 10 _ (laws.counts (mdb_in blocks) (catalog_in blocks)))
      (both_given _ _ (by_place 11 _ (laws.forks (mdb_in blocks) (overflow_in blocks) (catalog_in blocks))) (λ forks. by_place 12 _ (space files forks))))

  pub no_blocks_fault : (total : ℕ) → IsExact (blocks_fault total blocks) (AreBlocksSound total blocks)
  unfolding blocks_fault
  no_blocks_fault total =
      alike _
      (λ h. record {
        mdb = h.0;
        extents = h.1.0.0;
        catalog = h.1.0.1;
        records = h.1.1.0.0;
        ids = h.1.1.0.1.0;
        names = h.1.1.0.1.1.0;
        places = h.1.1.0.1.1.1;
        valences = h.1.1.1.0;
        counts = h.1.1.1.1.0;
        forks = h.1.1.1.1.1.0;
        space = h.1.1.1.1.1.1;
      })
      (λ (h : AreBlocksSound total blocks). (h.mdb, ((h.extents, h.catalog), ((h.records, (h.ids, (h.names, h.places))), (h.valences, (h.counts, (h.forks, h.space)))))))
      (both _ _ (laws.mdb total (mdb_in blocks)) (both_given _ _ trees (λ files. both _ _ records (numbers files))))

pub no_image_fault : NoLengthFault → NoBlocksFault → (image : List ℕ) → IsExact (fault_of image) (IsSound image)
unfolding fault_of
no_image_fault lengths volumes image =
    alike _ (λ h. record { len = h.0; blocks = h.1 }) (λ (h : IsSound image). (h.len, h.blocks))
    (both _ _ (lengths (length image)) (volumes (block_count image) (block_at image)))
