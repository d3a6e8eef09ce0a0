-- The checks of both trees, where nodes may be missing.
use Rattle.std.proofs.Common.{◌≡◌, ℕ, ◌+◌, ◌/◌, ◌%◌, true, false, List, refl, arith}
use Rattle.std.specs.Prelude.{min}
use Rattle.std.specs.Option.{is_none}
use Rattle.hfs_fields.specs.declared.mdb.Mdb.{Mdb}
use Rattle.hfs_btree.specs.Tree.{Store}
use Rattle.hfs_btree.specs.Sound.{IsShaped}
use Rattle.hfs_btree_checks.specs.Shape.{shape_fault}
use Rattle.hfs_space.specs.Faults.{is_tree_file}
use Rattle.hfs_space.specs.TreeFiles.{node_count}
use Rattle.hfs_space.specs.TreeKeys.{ext_keys}
use Rattle.hfs_catalog.specs.Tree.{cat_keys}
use Rattle.hfs_fields.specs.declared.extent.Extent.{Extent}
use Rattle.hfs_check.specs.Answers.{extents_tree_fault}
use Rattle.hfs_check.specs.Faults.{extents_fault, catalog_fault}
use Rattle.hfs_check.proofs.LawTypes.{NoExtentsFault, NoCatalogFault}
use Rattle.hfs_remains.specs.OverflowRecords.{is_extents_tree_right}
use Rattle.hfs_remains.specs.CatalogRecords.{is_catalog_tree_right}
use Rattle.hfs_fields.proofs.CommonLemmas.{none-true}

pub ceiling : (size : ℕ) → size / 512 + min 1 (size % 512) ≡ node_count size
ceiling size = omega arith

module _ (mdb : Mdb) (nodes : Store) where
  -- the extents file is wrong
  pub wrong-extents-file : is_tree_file mdb mdb.extents_file mdb.extents_file_size ≡ false → is_extents_tree_right mdb nodes ≡ false
  unfolding is_extents_tree_right extents_fault
  wrong-extents-file wrong = rw wrong refl

  pub right-extents-file : is_tree_file mdb mdb.extents_file mdb.extents_file_size ≡ true → is_extents_tree_right mdb nodes ≡ is_none (extents_tree_fault mdb.extents_file_size nodes)
  unfolding is_extents_tree_right extents_fault shape_fault
  right-extents-file right = rw right refl

  pub extents-shaped : NoExtentsFault → is_extents_tree_right mdb nodes ≡ true → IsShaped ext_keys mdb.extents_file_size nodes
  unfolding is_extents_tree_right
  extents-shaped law right = ((law mdb nodes).0 (none-true _ right)).shape

  -- the catalog file
  pub wrong-catalog-file : (extents : List Extent) → is_tree_file mdb extents mdb.catalog_file_size ≡ false → is_catalog_tree_right mdb extents nodes ≡ false
  unfolding is_catalog_tree_right catalog_fault
  wrong-catalog-file extents wrong = rw wrong refl

  pub right-catalog-file : (extents : List Extent) → is_tree_file mdb extents mdb.catalog_file_size ≡ true → is_catalog_tree_right mdb extents nodes ≡ is_none (shape_fault cat_keys mdb.catalog_file_size nodes)
  unfolding is_catalog_tree_right catalog_fault shape_fault
  right-catalog-file extents right = rw right refl

  pub catalog-shaped : (extents : List Extent) → NoCatalogFault → is_catalog_tree_right mdb extents nodes ≡ true → IsShaped cat_keys mdb.catalog_file_size nodes
  unfolding is_catalog_tree_right
  catalog-shaped extents law right = ((law mdb extents nodes).0 (none-true _ right)).shape
