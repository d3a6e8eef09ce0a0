-- What holds of the checks of an image. Each statement is what a function of src/laws.rt ensures.
use Rattle.std.specs.Prelude.{◌≡◌, ℕ, ◌↔◌, List, None}
use Rattle.hfs_fields.specs.declared.mdb.Mdb.{Mdb}
use Rattle.hfs_fields.specs.declared.extent.Extent.{Extent}
use Rattle.hfs_btree.specs.Tree.{Store}
use Rattle.hfs_btree_checks.specs.Shape.{has_counts}
use Rattle.hfs_space.specs.TreeKeys.{ext_keys, IsExtentsTree}
use Rattle.hfs_catalog.specs.Records.{Catalog}
use Rattle.hfs_catalog.specs.Tree.{cat_keys, IsCatalogTree}
use Rattle.hfs_catalog.specs.Sound.{IsSoundCatalog}
use Rattle.hfs_check.specs.Parts.{Blocks, mdb_in, extents_nodes, catalog_nodes, catalog_in}
use Rattle.hfs_check.specs.Sound.{IsImageLength, IsMdbSound, IsExtentsSound, IsCatalogFileSound, AreCatalogNamesSound, AreCatalogPlacesSound, AreBlocksSound, IsSound}
use Rattle.hfs_check.specs.Faults.{length_fault, mdb_fault, extents_fault, catalog_fault, catalog_name_fault, catalog_place_fault, blocks_fault}
use Rattle.hfs_check.specs.Agree.{Agrees}

-- ---- a check finds no fault exactly where its facts hold

abbrev pub NoLengthFault : Type 0
NoLengthFault = (bytes : ℕ) → (length_fault bytes ≡ None) ↔ IsImageLength bytes

abbrev pub NoMdbFault : Type 0
NoMdbFault = (total : ℕ) (mdb : Mdb) → (mdb_fault total mdb ≡ None) ↔ IsMdbSound total mdb

abbrev pub NoExtentsFault : Type 0
NoExtentsFault = (mdb : Mdb) (nodes : Store) → (extents_fault (has_counts ext_keys nodes) mdb nodes ≡ None) ↔ IsExtentsSound mdb nodes

abbrev pub NoCatalogFault : Type 0
NoCatalogFault =
    (mdb : Mdb) (extents : List Extent) (nodes : Store)
    → (catalog_fault (has_counts cat_keys nodes) mdb extents nodes ≡ None) ↔ IsCatalogFileSound mdb extents nodes

abbrev pub NoCatalogNameFault : Type 0
NoCatalogNameFault = (nodes : Store) (catalog : Catalog) → (catalog_name_fault nodes catalog ≡ None) ↔ AreCatalogNamesSound nodes catalog

abbrev pub NoCatalogPlaceFault : Type 0
NoCatalogPlaceFault = (nodes : Store) (catalog : Catalog) → (catalog_place_fault nodes catalog ≡ None) ↔ AreCatalogPlacesSound nodes catalog

-- so many blocks are those of a sound volume exactly where no check behind that of the length fails
abbrev pub NoBlocksFault : Type 0
NoBlocksFault = (total : ℕ) (blocks : Blocks) → (blocks_fault total blocks ≡ None) ↔ AreBlocksSound total blocks

-- ---- a sound volume

-- its trees are sound
abbrev pub TreesAreSound : Type 0
TreesAreSound = (total : ℕ) (blocks : Blocks) → AreBlocksSound total blocks → IsExtentsTree (extents_nodes blocks) × IsCatalogTree (catalog_nodes blocks)

-- its catalog is sound
abbrev pub CatalogIsSound : Type 0
CatalogIsSound = (total : ℕ) (blocks : Blocks) → AreBlocksSound total blocks → IsSoundCatalog (mdb_in blocks).next_id (catalog_in blocks)

-- ---- what stays as it was

-- a sound image agrees with itself
abbrev pub AgreesWithItself : Type 0
AgreesWithItself = (image : List ℕ) → IsSound image → Agrees image image

-- what agrees with an image that agrees with the base agrees with the base
abbrev pub AgreesOn : Type 0
AgreesOn = (base middle image : List ℕ) → Agrees base middle → Agrees middle image → Agrees base image
