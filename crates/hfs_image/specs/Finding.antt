-- What is found of the runs of a volume's trees.
use Rattle.std.specs.Prelude.{◌≡◌, ℕ, Bool, true, false, ◌&&◌, List, Option, MatchOption}
use Rattle.std.proofs.Common.{Vec, Global}
use Rattle.hfs_fields.specs.declared.extent.Extent.{Extent}
use Rattle.hfs_fields.specs.declared.mdb.Mdb.{Mdb}
use Rattle.hfs_blocks.specs.declared.run.Run.{Run}
use Rattle.hfs_space.specs.Faults.{is_tree_file}
use Rattle.hfs_space.specs.TreeFiles.{tree_blocks}
use Rattle.hfs_check.specs.Parts.{Blocks, extents_blocks, catalog_blocks}
use Rattle.hfs_image.specs.Gathered.{LieAt}
use Rattle.hfs_image.specs.Needed.{has_extents_file, is_extents_tree_right, has_catalog_file}

-- the runs at these places of a volume of so many blocks, where the file is right, and else none
abbrev pub FindsWhere : Bool → ℕ → List ℕ → Option (Vec Run Global) → Type 0
FindsWhere right total places found = MatchOption found (right ≡ false) (λ runs. (right ≡ true) × LieAt total places runs.items)

-- those of a tree's file that has these extents and this size
abbrev pub FindsTreeFile : ℕ → Mdb → List Extent → ℕ → Option (Vec Run Global) → Type 0
FindsTreeFile total mdb extents size found = FindsWhere (is_tree_file mdb extents size) total (tree_blocks mdb extents size) found

-- those of the extents file
abbrev pub FindsExtentsFile : ℕ → Blocks → Option (Vec Run Global) → Type 0
FindsExtentsFile total blocks found = FindsWhere (has_extents_file blocks) total (extents_blocks blocks) found

-- those of the catalog file
abbrev pub FindsCatalogFile : ℕ → Blocks → Option (Vec Run Global) → Type 0
FindsCatalogFile total blocks found = FindsWhere (has_catalog_file blocks) total (catalog_blocks blocks) found

-- those of the catalog file, behind an extents tree that is right
abbrev pub FindsCatalog : ℕ → Blocks → Option (Vec Run Global) → Type 0
FindsCatalog total blocks found = FindsWhere (is_extents_tree_right blocks && has_catalog_file blocks) total (catalog_blocks blocks) found

-- the runs are those of the extents file
abbrev pub LieAtExtents : ℕ → Blocks → List Run → Type 0
LieAtExtents total blocks runs = LieAt total (extents_blocks blocks) runs
