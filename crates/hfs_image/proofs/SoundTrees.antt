-- The runs of the trees of a sound volume.
use Rattle.std.proofs.Common.{◌≡◌, ℕ, List, Result, Ok, Err, Vec, Global, sym, subst, ◌∙◌}
use Rattle.std.specs.Prelude.{IfOk}
use Rattle.std.specs.List.{flat_map}
use Rattle.hfs_fields.specs.declared.extent.Extent.{Extent}
use Rattle.hfs_fields.specs.declared.mdb.Mdb.{Mdb}
use Rattle.hfs_blocks.specs.declared.run.Run.{Run}
use Rattle.hfs_blocks.specs.Blocks.{run_of, nodes_in, AreRunsWithin}
use Rattle.hfs_space.specs.Extents.{AreExtentsWithin}
use Rattle.hfs_space.specs.Forks.{HasArea}
use Rattle.hfs_space.specs.TreeFiles.{HaveTreeBlocks}
use Rattle.hfs_space.proofs.TreeFileLemmas.{nodes_in-tree_blocks}
use Rattle.hfs_check.specs.Parts.{Blocks, mdb_in, catalog_extents, catalog_blocks, catalog_nodes}
use Rattle.hfs_check.specs.Sound.{AreBlocksSound}
use Rattle.hfs_check.specs.Trees.{LieInCatalog, LieInExtents}
use Rattle.hfs_image.proofs.Found.{blocks-are, nodes-are, catalog-blocks-are}

module _ (total count : ℕ) (same : total ≡ count) (blocks : Blocks) (mdb : Mdb) (is : mdb ≡ mdb_in blocks) (sound : AreBlocksSound count blocks) where
  pub area : HasArea mdb total
  area = subst (λ (n : ℕ). HasArea mdb n) (sym same) (subst (λ (m : Mdb). HasArea m count) (sym is) sound.mdb.area)

  pub extents-within : AreExtentsWithin mdb.allocation_blocks mdb.extents_file
  extents-within = subst (λ (m : Mdb). AreExtentsWithin m.allocation_blocks m.extents_file) (sym is) sound.extents.file.within

  pub extents-lie : {E : Type 0} (r : Result (Vec Run Global) E) → IfOk r (λ runs. AreRunsWithin runs.items total)
      → IfOk r (HaveTreeBlocks mdb mdb.extents_file mdb.extents_file_size) → IfOk r (λ runs. LieInExtents count blocks runs.items)
  extents-lie (Ok runs) lie have = record {
    within = subst (λ (n : ℕ). AreRunsWithin runs.items n) same lie;
    numbers = have ∙ blocks-are blocks mdb is;
    same = nodes-are blocks mdb is runs.items (have ∙ blocks-are blocks mdb is);
  }
  extents-lie (Err e) lie have = tt

  module _ (extents : List Extent) (are : extents ≡ catalog_extents blocks) where
    pub catalog-within : AreExtentsWithin mdb.allocation_blocks extents
    catalog-within =
        subst (λ (es : List Extent). AreExtentsWithin mdb.allocation_blocks es) (sym are)
        (subst (λ (m : Mdb). AreExtentsWithin m.allocation_blocks (catalog_extents blocks)) (sym is) sound.catalog.file.within)

    catalog-nodes-are : (runs : List Run) → flat_map run_of runs ≡ catalog_blocks blocks → nodes_in blocks runs ≡ catalog_nodes blocks
    unfolding catalog_blocks catalog_nodes
    catalog-nodes-are runs numbers = nodes_in-tree_blocks blocks (mdb_in blocks) (catalog_extents blocks) (mdb_in blocks).catalog_file_size runs numbers

    pub catalog-lies : {E : Type 0} (r : Result (Vec Run Global) E) → IfOk r (λ runs. AreRunsWithin runs.items total)
        → IfOk r (HaveTreeBlocks mdb extents mdb.catalog_file_size) → IfOk r (λ runs. LieInCatalog count blocks runs.items)
    catalog-lies (Ok runs) lie have = record {
      within = subst (λ (n : ℕ). AreRunsWithin runs.items n) same lie;
      numbers = have ∙ catalog-blocks-are blocks mdb is extents are;
      same = catalog-nodes-are runs.items (have ∙ catalog-blocks-are blocks mdb is extents are);
    }
    catalog-lies (Err e) lie have = tt
