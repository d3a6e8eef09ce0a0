-- Where the two trees of a volume lie.
use Rattle.std.specs.Prelude.{◌≡◌, ℕ, List, true, false, Option, MatchOption, Result, IfOk}
use Rattle.std.specs.List.{flat_map}
use Rattle.hfs_fields.specs.declared.extent.Extent.{Extent}
use Rattle.hfs_blocks.specs.declared.run.Run.{Run}
use Rattle.hfs_blocks.specs.Blocks.{run_of, nodes_in, AreRunsWithin, block_at, block_count}
use Rattle.hfs_btree.specs.Tree.{Store}
use Rattle.hfs_check.specs.declared.trees.VolumeTrees.{VolumeTrees}
use Rattle.hfs_check.specs.declared.checking.CheckedVolume.{CheckedVolume}
use Rattle.hfs_check.specs.Parts.{Blocks, extents_blocks, extents_nodes, catalog_extents, catalog_blocks, catalog_nodes}
use Rattle.hfs_space.specs.TreeFiles.{tree_nodes, tree_blocks}
use Rattle.hfs_fields.specs.declared.mdb.Mdb.{Mdb}
use Rattle.std.proofs.Common.{Vec, Global}
use Rattle.hfs_space.specs.Faults.{is_tree_file}

-- the nodes lie in these runs of a volume of so many blocks, one in each of the blocks with these numbers
pub record LieIn (total : ℕ) (blocks : Blocks) (runs : List Run) (places : List ℕ) (nodes : Store) : Type 0 where
  pub within : AreRunsWithin runs total
  pub numbers : flat_map run_of runs ≡ places
  pub same : nodes_in blocks runs ≡ nodes

-- the runs are those of the extents tree, the extents those of the catalog file, and the runs those of the catalog tree
pub record AreTreesIn (total : ℕ) (blocks : Blocks) (extents_runs : List Run) (file : List Extent) (catalog_runs : List Run) : Type 0 where
  pub extents : LieIn total blocks extents_runs (extents_blocks blocks) (extents_nodes blocks)
  pub catalog_file : file ≡ catalog_extents blocks
  pub catalog : LieIn total blocks catalog_runs (catalog_blocks blocks) (catalog_nodes blocks)

-- these are the trees of a volume of so many blocks
abbrev pub HasTrees : ℕ → Blocks → VolumeTrees → Type 0
HasTrees total blocks trees = AreTreesIn total blocks trees.extents.items trees.catalog_file.items trees.catalog.items

-- the runs are those of the extents file of this master directory block
abbrev pub LieInExtentsOf : ℕ → Blocks → Mdb → List Run → Type 0
LieInExtentsOf total blocks mdb runs = LieIn total blocks runs (tree_blocks mdb mdb.extents_file mdb.extents_file_size)
    (tree_nodes blocks mdb mdb.extents_file mdb.extents_file_size)

-- the runs are those of a catalog file with these extents
abbrev pub LieInCatalogOf : ℕ → Blocks → Mdb → List Extent → List Run → Type 0
LieInCatalogOf total blocks mdb extents runs = LieIn total blocks runs (tree_blocks mdb extents mdb.catalog_file_size)
    (tree_nodes blocks mdb extents mdb.catalog_file_size)

-- the runs are those of the extents file
abbrev pub LieInExtents : ℕ → Blocks → List Run → Type 0
LieInExtents total blocks runs = LieIn total blocks runs (extents_blocks blocks) (extents_nodes blocks)

-- the runs are those of the catalog file
abbrev pub LieInCatalog : ℕ → Blocks → List Run → Type 0
LieInCatalog total blocks runs = LieIn total blocks runs (catalog_blocks blocks) (catalog_nodes blocks)

-- the runs of a tree's file that has these extents and this size, where the file is right, and else none
abbrev pub FindsTreeFile : ℕ → Blocks → Mdb → List Extent → ℕ → Option (Vec Run Global) → Type 0
FindsTreeFile total blocks mdb extents size found = MatchOption found (is_tree_file mdb extents size ≡ false)
    (λ runs. (is_tree_file mdb extents size ≡ true) × LieIn total blocks runs.items (tree_blocks mdb extents size) (tree_nodes blocks mdb extents size))

-- these are the trees of an image
abbrev pub HasTreesOf : List ℕ → VolumeTrees → Type 0
HasTreesOf image trees = HasTrees (block_count image) (block_at image) trees

-- the volume in the answer has its two trees
abbrev pub GivesTrees : {A E : Type 0} → ℕ → Blocks → (A → VolumeTrees) → Result A E → Type 0
GivesTrees total blocks trees result = IfOk result (λ found. HasTrees total blocks (trees found))

-- the answer has the runs of a tree's file, or none where the file is wrong
abbrev pub GivesRuns : {E : Type 0} → ℕ → Blocks → Mdb → List Extent → ℕ → Result (Option (Vec Run Global)) E → Type 0
GivesRuns total blocks mdb extents size result = IfOk result (FindsTreeFile total blocks mdb extents size)

-- the runs are those of the extents tree
abbrev pub HoldExtents : ℕ → Blocks → Vec Run Global → Type 0
HoldExtents total blocks = λ runs. LieInExtents total blocks runs.items

-- the extents are the catalog file's
abbrev pub AreCatalogExtents : Blocks → Vec Extent Global → Type 0
AreCatalogExtents blocks extents = extents.items ≡ catalog_extents blocks

-- the runs in the answer are those of the catalog tree
abbrev pub GivesCatalog : {A E : Type 0} → ℕ → Blocks → (A → Vec Run Global) → Result A E → Type 0
GivesCatalog total blocks runs result = IfOk result (λ found. LieInCatalog total blocks (runs found).items)

-- the checked volume has its two trees
abbrev pub HasCheckedTrees : ℕ → Blocks → CheckedVolume → Type 0
HasCheckedTrees total blocks = λ checked. HasTrees total blocks checked.volume.trees
