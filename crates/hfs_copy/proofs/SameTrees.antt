-- Where the trees of a volume lie, where its master directory block and the file of the catalog are the same.
use Rattle.std.proofs.Common.{◌≡◌, ℕ, map, ap, sym, ◌∙◌}
use Rattle.hfs_blocks.specs.Blocks.{nodes_in}
use Rattle.hfs_check.specs.declared.trees.VolumeTrees.{VolumeTrees}
use Rattle.hfs_check.specs.Parts.{Blocks, mdb_in, catalog_extents}
use Rattle.hfs_check.specs.Trees.{HasTrees}
use Rattle.hfs_image.proofs.SameParts.{extents_blocks-same, catalog_blocks-same, extents-map, catalog-map}

pub trees-same :
    (total : ℕ) (old new : Blocks) (trees : VolumeTrees) → mdb_in new ≡ mdb_in old → catalog_extents new ≡ catalog_extents old → HasTrees total old trees → HasTrees total new trees
unfolding nodes_in
trees-same total old new trees directory file are = record {
  extents = record {
    within = are.extents.within;
    numbers = are.extents.numbers ∙ sym (extents_blocks-same old new directory);
    same = ap (map new) are.extents.numbers ∙ sym (extents-map old new directory);
  };
  catalog_file = are.catalog_file ∙ sym file;
  catalog = record {
    within = are.catalog.within;
    numbers = are.catalog.numbers ∙ sym (catalog_blocks-same old new directory file);
    same = ap (map new) are.catalog.numbers ∙ sym (catalog-map old new directory file);
  };
}
