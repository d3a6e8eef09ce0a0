-- The runs in which the nodes of a volume's two trees lie.
use Rattle.std.specs.Prelude.{◌≡◌, ℕ, List}
use Rattle.std.specs.List.{flat_map}
use Rattle.hfs_blocks.specs.declared.run.Run.{Run}
use Rattle.hfs_blocks.specs.Blocks.{run_of, AreRunsWithin}
use Rattle.hfs_check.specs.Parts.{Blocks, extents_blocks, catalog_blocks}

-- in these runs, which are those with the right numbers, lie the nodes of the catalog's file
pub record IsCatalogFile (runs : List Run) (total : ℕ) (blocks : Blocks) : Type 0 where
  pub within : AreRunsWithin runs total
  pub numbers : flat_map run_of runs ≡ catalog_blocks blocks

-- in these runs, which are those with the right numbers, lie the nodes of the extents tree's file
pub record IsExtentsFile (runs : List Run) (total : ℕ) (blocks : Blocks) : Type 0 where
  pub within : AreRunsWithin runs total
  pub numbers : flat_map run_of runs ≡ extents_blocks blocks
