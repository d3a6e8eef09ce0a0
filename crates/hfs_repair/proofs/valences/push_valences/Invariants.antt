use Rattle.std.proofs.Common.{◌-◌, length}
use Rattle.std.specs.List.{flat_map}
use Rattle.hfs_blocks.specs.Blocks.{run_of, nodes_in}
use Rattle.hfs_btree.specs.Header.{tree_content}
use Rattle.hfs_catalog.specs.Tree.{cat_keys}
use Rattle.hfs_catalog.specs.Indexes.{count_of}
use Rattle.hfs_repair.proofs.LeafValences.{IsReading}
use Rattle.hfs_repair.proofs.valences.push_valences.Given as goal

abbrev pub invariant-loop-n : goal.invariant-loop-n
invariant-loop-n g l =
    IsReading (count_of l.children) (flat_map run_of l.tree.runs.items) (nodes_in (g.B.Blocks.blocks l.blocks) l.tree.runs.items) l.n l.before l.initial.wrong.items l.wrong.items

abbrev pub decreases-loop-n : goal.decreases-loop-n
decreases-loop-n g l = length (tree_content cat_keys (nodes_in (g.B.Blocks.blocks l.blocks) l.tree.runs.items)) - l.before
