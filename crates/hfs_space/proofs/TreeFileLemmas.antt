-- Lemmas about the definitions of specs/TreeFiles.antt.
use Rattle.std.proofs.Common.{sym, ap, ◌∙◌}
use Rattle.std.specs.Prelude.{◌≡◌, ℕ, List, map}
use Rattle.std.specs.List.{flat_map}
use Rattle.std.proofs.lemmas.List.{take-map}
use Rattle.hfs_fields.specs.declared.extent.Extent.{Extent}
use Rattle.hfs_fields.specs.declared.mdb.Mdb.{Mdb}
use Rattle.hfs_blocks.specs.declared.run.Run.{Run}
use Rattle.hfs_blocks.specs.Blocks.{run_of, nodes_in}
use Rattle.hfs_space.specs.ForkLaws.{block_numbers}
use Rattle.hfs_space.specs.TreeFiles.{node_count, tree_nodes, tree_blocks}

-- what lies in runs of these blocks is the file's nodes, whatever the blocks hold
pub nodes_in-tree_blocks : (blocks : ℕ → List ℕ) (mdb : Mdb) (extents : List Extent) (size : ℕ) (runs : List Run)
    → flat_map run_of runs ≡ tree_blocks mdb extents size → nodes_in blocks runs ≡ tree_nodes blocks mdb extents size
unfolding nodes_in tree_nodes tree_blocks
nodes_in-tree_blocks blocks mdb extents size runs e = ap (map blocks) e ∙ sym (take-map blocks (node_count size) (block_numbers mdb extents))
