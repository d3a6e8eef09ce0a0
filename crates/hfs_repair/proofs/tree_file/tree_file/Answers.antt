use Rattle.std.proofs.Common.{◌≤◌, ◌*◌, ap, length, sym, subst, ◌∙◌}
use Rattle.hfs_btree.specs.Tree.{Store}
use Rattle.hfs_blocks.specs.Blocks.{nodes_in}
use Rattle.hfs_space.proofs.FileLengthLemmas.{length-tree_nodes}
use Rattle.hfs_space.proofs.LawsProved.{no_tree_file_fault}
use Rattle.hfs_repair.proofs.tree_file.tree_file.Goals as goal

pub right_counts-requires : goal.right_counts-requires
right_counts-requires g c =
    let blocks = g.B.Blocks.blocks c.args.blocks.now in
    subst (λ (ns : Store). c.args.size ≤ 512 * length ns) (sym (ap (nodes_in blocks) c.deref.ensures.value ∙ c.in_ok-runs.ensures.nodes))
    (length-tree_nodes blocks c.args.mdb.now c.args.extents.now c.args.size c.requires.whole_size
    ((no_tree_file_fault c.args.mdb.now c.args.extents.now c.args.size).0 (sym c.is_tree_file.ensures ∙ c.if-not-is_tree_file.false)))
