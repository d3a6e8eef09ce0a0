-- What a patch makes of a volume's blocks.
use Rattle.std.specs.Prelude.{◌≡◌, ℕ, List, Result, IfOk}
use Rattle.std.specs.List.{flat_map}
use Rattle.hfs_fields.specs.declared.key.CatKey.{CatKey}
use Rattle.hfs_fields.specs.declared.extent.Extent.{Extent}
use Rattle.hfs_fields.specs.declared.dir_record.DirRecord.{DirRecord}
use Rattle.hfs_fields.specs.declared.file_record.FileRecord.{FileRecord}
use Rattle.hfs_fields.specs.declared.mdb.Mdb.{Mdb}
use Rattle.hfs_blocks.specs.declared.run.Run.{Run}
use Rattle.hfs_blocks.specs.Blocks.{run_of, nodes_in}
use Rattle.hfs_blocks.specs.Layers.{Numbered, changes, over}
use Rattle.hfs_btree.specs.Tree.{Store}
use Rattle.hfs_btree_edits.specs.Files.{beside}
use Rattle.hfs_space.specs.Extents.{extent_blocks}
use Rattle.hfs_record_edits.specs.Dropped.{HasDroppedOverflow}
use Rattle.hfs_record_edits.specs.Released.{HasReleased}
use Rattle.hfs_check.specs.Parts.{Blocks, mdb_in, extents_nodes, catalog_nodes}
use Rattle.hfs_call_patches.specs.Deleting.{ItemDropped, MakesFileDeletion, MakesFolderDeletion}

-- ---- the blocks and the nodes after it

-- the blocks with the patch laid over them
abbrev pub patched : Blocks → Numbered → Blocks
patched blocks patch = over (changes patch) blocks

-- the nodes that lie there in these runs
abbrev pub patched_nodes : Blocks → Numbered → List Run → Store
patched_nodes blocks patch runs = nodes_in (patched blocks patch) runs

-- the patch makes of these blocks others so that the fact holds of the old ones and the new
abbrev pub Patches : Blocks → (Blocks → Blocks → Type 0) → Numbered → Type 0
Patches blocks Fact patch = Fact blocks (patched blocks patch)

-- where the result is Ok, it is a patch that does so
abbrev pub GivesPatch : {E : Type 0} → Result Numbered E → Blocks → (Blocks → Blocks → Type 0) → Type 0
GivesPatch result blocks Fact = IfOk result (Patches blocks Fact)

-- ---- what it leaves as it is

-- the nodes of the extents tree, which lie in these runs
abbrev pub LeavesExtents : Blocks → List Run → Numbered → Type 0
LeavesExtents blocks runs patch = patched_nodes blocks patch runs ≡ extents_nodes blocks

-- the nodes of the catalog, which lie in these runs
abbrev pub LeavesCatalog : Blocks → List Run → Numbered → Type 0
LeavesCatalog blocks runs patch = patched_nodes blocks patch runs ≡ catalog_nodes blocks

-- outside the blocks of these runs, new shows the same over these blocks as old
abbrev pub ShowsSameBeside : List Run → Blocks → Numbered → Numbered → Type 0
ShowsSameBeside runs blocks old new = beside (flat_map run_of runs) (patched blocks new) ≡ beside (flat_map run_of runs) (patched blocks old)

-- ---- parts of the deletion of a file

-- the bits of these extents' blocks are clear
abbrev pub ReleasesExtents : List Extent → Blocks → Blocks → Type 0
ReleasesExtents extents old new = HasReleased (mdb_in old).bitmap_start (mdb_in old).allocation_blocks (extent_blocks extents) old new

-- in these runs lies the extents tree without this file's records
abbrev pub DropsOverflow : ℕ → List Run → Blocks → Blocks → Type 0
DropsOverflow file runs old new = HasDroppedOverflow file (extents_nodes old) (nodes_in new runs)

-- in these runs lies the catalog from which the item went, with so many children in its folder
abbrev pub DropsItem : CatKey → ℕ → CatKey → ℕ → ℕ → List Run → Blocks → Blocks → Type 0
DropsItem key id folder n now runs old new = ItemDropped key id folder n now (catalog_nodes old) (nodes_in new runs)

-- a patch and the counts after it make the step of a Delete, wherever one chooses this file
abbrev pub DeletesFile : ℕ → CatKey → FileRecord → ℕ → ℕ → Blocks → Numbered × Mdb → Type 0
DeletesFile dir key file now total blocks made = MakesFileDeletion dir key file now total blocks made.1 (patched blocks made.0)

-- where the result is Ok, it is a patch that makes the step of a Delete, wherever one chooses this folder
abbrev pub GivesFolderDeletion : {E : Type 0} → Result Numbered E → ℕ → CatKey → DirRecord → ℕ → Blocks → Type 0
GivesFolderDeletion result dir key folder now blocks = GivesPatch result blocks (MakesFolderDeletion dir key folder now)
