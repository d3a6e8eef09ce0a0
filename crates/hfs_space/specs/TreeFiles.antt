-- The file of a tree: its nodes, one in each logical block, cut at the file's size.
use Rattle.std.proofs.Common.{Vec, Global}
use Rattle.std.specs.Prelude.{◌≡◌, ℕ, ◌+◌, ◌/◌, List, take}
use Rattle.std.specs.List.{flat_map}
use Rattle.hfs_fields.specs.declared.extent.Extent.{Extent}
use Rattle.hfs_fields.specs.declared.mdb.Mdb.{Mdb}
use Rattle.hfs_blocks.specs.declared.run.Run.{Run}
use Rattle.hfs_blocks.specs.Blocks.{run_of, nodes_in}
use Rattle.hfs_space.specs.ForkLaws.{block_numbers}
use Rattle.hfs_space.specs.Forks.{file_blocks}

-- how many nodes a file of so many bytes has, the last of which may be cut
abbrev pub node_count : ℕ → ℕ
node_count size = (size + 511) / 512

-- the nodes of a tree's file that has these extents and this size in bytes
unfoldable pub tree_nodes : (ℕ → List ℕ) → Mdb → List Extent → ℕ → List (List ℕ)
tree_nodes blocks mdb extents size = take (node_count size) (file_blocks blocks mdb extents)

-- the logical blocks in which these nodes lie, by their numbers
unfoldable pub tree_blocks : Mdb → List Extent → ℕ → List ℕ
tree_blocks mdb extents size = take (node_count size) (block_numbers mdb extents)

-- in runs of these blocks lie the nodes of the tree's file
abbrev pub HoldNodes : (ℕ → List ℕ) → Mdb → List Extent → ℕ → List Run → Type 0
HoldNodes blocks mdb extents size runs = nodes_in blocks runs ≡ tree_nodes blocks mdb extents size

-- the runs have the logical blocks of the tree's file, by their numbers
abbrev pub HaveTreeBlocks : Mdb → List Extent → ℕ → Vec Run Global → Type 0
HaveTreeBlocks mdb extents size = λ runs. flat_map run_of runs.items ≡ tree_blocks mdb extents size

-- in the runs lie the nodes of the tree's file
abbrev pub HoldTreeNodes : (ℕ → List ℕ) → Mdb → List Extent → ℕ → Vec Run Global → Type 0
HoldTreeNodes blocks mdb extents size = λ runs. HoldNodes blocks mdb extents size runs.items
