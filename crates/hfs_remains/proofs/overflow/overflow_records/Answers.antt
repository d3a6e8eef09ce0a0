use Rattle.std.proofs.Common.{ℕ, sym, subst, ◌∙◌}
use Rattle.hfs_btree.specs.Sound.{HasStructure, HasCounts}
use Rattle.hfs_space.specs.TreeKeys.{ext_keys}
use Rattle.hfs_remains.specs.TreeFiles.{first_nodes}
use Rattle.hfs_remains.specs.OverflowRecords.{extents_nodes}
use Rattle.hfs_remains.proofs.RightLemmas.{extents-shaped}
use Rattle.hfs_check.proofs.LawsProved.{no_extents_fault}
use Rattle.hfs_remains.proofs.overflow.overflow_records.Goals as goal

pub records_of_tree-requires-clause-structure : goal.records_of_tree-requires-clause-structure
records_of_tree-requires-clause-structure g c =
    let s = c.args.nodes.now in
    let blocks = g.B.Blocks.blocks s.blocks.now in
    let shaped = extents-shaped s.mdb.now (extents_nodes blocks s.mdb.now s.file.now) no_extents_fault (sym c.in_ok-is_extents_tree_right.ensures ∙ c.if-branch.true) in
    subst (λ (n : ℕ). HasStructure ext_keys (first_nodes blocks s.mdb.now s.file.now n)) (sym c.node_count-count.ensures) shaped.structure

pub records_of_tree-requires-clause-counts : goal.records_of_tree-requires-clause-counts
records_of_tree-requires-clause-counts g c =
    let s = c.args.nodes.now in
    let blocks = g.B.Blocks.blocks s.blocks.now in
    let shaped = extents-shaped s.mdb.now (extents_nodes blocks s.mdb.now s.file.now) no_extents_fault (sym c.in_ok-is_extents_tree_right.ensures ∙ c.if-branch.true) in
    subst (λ (n : ℕ). HasCounts ext_keys (first_nodes blocks s.mdb.now s.file.now n)) (sym c.node_count-count.ensures) shaped.counts
