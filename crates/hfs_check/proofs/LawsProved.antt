-- Laws of this crate, each by the laws that it stands on.
use Rattle.std.proofs.Common.{ℕ, ◌≡◌, None}
use Rattle.hfs_fields.specs.declared.mdb.Mdb.{Mdb}
use Rattle.hfs_check.specs.Parts.{Blocks, extents_nodes}
use Rattle.hfs_check.specs.Sound.{IsMdbSound}
use Rattle.hfs_space.specs.TreeKeys.{IsExtentsTree}
use Rattle.hfs_check.specs.Faults.{mdb_fault, check_fault, extents_fault, extents_counts}
use Rattle.hfs_check.proofs.Opened.{extents_tree_sound}
use Rattle.hfs_check.proofs.Checked.{no_length_fault as no_length_fault-proved, no_mdb_fault as no_mdb_fault-proved, no_extents_fault as no_extents_fault-proved, no_catalog_fault as no_catalog_fault-proved, no_catalog_name_fault as no_catalog_name_fault-proved, no_catalog_place_fault as no_catalog_place_fault-proved}
use Rattle.hfs_check.specs.Laws.{NoImageFault, SoundImagesAreLawful}
use Rattle.hfs_check.proofs.LawTypes.{NoLengthFault, NoMdbFault, NoExtentsFault, NoCatalogFault, NoCatalogNameFault, NoCatalogPlaceFault, NoBlocksFault, TreesAreSound, CatalogIsSound, AgreesWithItself, AgreesOn}
use Rattle.hfs_space.proofs.LawsProved.{no_tree_file_fault, no_fork_fault, no_space_fault, owned_are_within}
use Rattle.hfs_catalog.proofs.CatalogChecksLawsProved.{no_name_fault, no_place_fault, no_record_fault, no_id_fault, no_valence_fault, no_count_fault}
use Rattle.hfs_check.proofs.Whole.{no_blocks_fault as no_blocks_fault-proved, no_image_fault as no_image_fault-proved}
use Rattle.hfs_check.proofs.LawfulVolume.{sound_trees, sound_catalog, lawful_volume}
use Rattle.hfs_catalog.proofs.CatalogLawsProved.{sound_is_lawful}
use Rattle.hfs_check.proofs.Stays.{agrees_itself, agrees_on as agrees_on-proved}

-- The check of an image's length finds no fault exactly where it has 1,536 to 2,147,483,648 bytes.
pub no_length_fault : NoLengthFault
no_length_fault = no_length_fault-proved

-- The check of a master directory block finds no fault exactly where its fields can be those of a volume of so many blocks.
pub no_mdb_fault : NoMdbFault
no_mdb_fault = no_mdb_fault-proved

-- The check of the extents tree finds no fault exactly where its file, its shape, the forks in its keys and its order are
-- sound.
pub no_extents_fault : NoExtentsFault
no_extents_fault = no_extents_fault-proved no_tree_file_fault

-- The check of the catalog tree finds no fault exactly where its file and its shape are sound.
pub no_catalog_fault : NoCatalogFault
no_catalog_fault = no_catalog_fault-proved no_tree_file_fault

-- The check of names finds no fault exactly where those of the catalog's records and of its index keys are sound.
pub no_catalog_name_fault : NoCatalogNameFault
no_catalog_name_fault = no_catalog_name_fault-proved no_name_fault

-- The check of order, parents and threads finds no fault exactly where they are sound and the catalog's index keys are in
-- order.
pub no_catalog_place_fault : NoCatalogPlaceFault
no_catalog_place_fault = no_catalog_place_fault-proved no_place_fault

-- The checks of a volume's blocks find no fault exactly where the blocks are those of a sound volume.
pub no_blocks_fault : NoBlocksFault
no_blocks_fault = λ total blocks. no_blocks_fault-proved
    (record {
      mdb = no_mdb_fault;
      extents = no_extents_fault;
      catalog = no_catalog_fault;
      records = no_record_fault;
      ids = no_id_fault;
      names = no_catalog_name_fault;
      places = no_catalog_place_fault;
      valences = no_valence_fault;
      counts = no_count_fault;
      forks = no_fork_fault;
      space = no_space_fault;
      within = owned_are_within;
    })
    blocks total

-- The checks of an image find no fault exactly where it is sound.
pub no_image_fault : NoImageFault
no_image_fault = no_image_fault-proved no_length_fault no_blocks_fault

-- Both trees of a sound volume are sound.
pub trees_are_sound : TreesAreSound
trees_are_sound = sound_trees

-- The catalog of a sound volume is sound.
pub catalog_is_sound : CatalogIsSound
catalog_is_sound = sound_catalog

-- A sound image holds a lawful volume.
pub sound_images_are_lawful : SoundImagesAreLawful
sound_images_are_lawful = lawful_volume sound_is_lawful

-- A sound image agrees with itself.
pub agrees_with_itself : AgreesWithItself
agrees_with_itself = agrees_itself

-- An image that agrees with one that agrees with a base agrees with the base.
pub agrees_on : AgreesOn
agrees_on = agrees_on-proved

-- a master directory block in which the check finds nothing is sound
pub mdb_is_sound : (total : ℕ) (mdb : Mdb) → mdb_fault total mdb ≡ None → IsMdbSound total mdb
mdb_is_sound total mdb none = (no_mdb_fault total mdb).0 none

-- an extents tree in which the check finds nothing is sound
pub extents_tree_is_sound : (blocks : Blocks) (mdb : Mdb) → check_fault 3 (extents_fault (extents_counts blocks) mdb (extents_nodes blocks)) ≡ None
    → IsExtentsTree (extents_nodes blocks)
extents_tree_is_sound = extents_tree_sound no_extents_fault
