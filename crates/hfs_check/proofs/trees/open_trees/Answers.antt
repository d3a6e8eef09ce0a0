use Rattle.std.proofs.Common.{rules}
use Rattle.hfs_check.specs.Faults.{trees_fault, extents_counts, catalog_counts}
use Rattle.hfs_check.specs.Answers.{IsFaultOf}
use Rattle.hfs_check.proofs.Opened.{trees_extents, trees_catalog}
use Rattle.hfs_check.proofs.trees.open_trees.Goals as goal

pub returns-in_err-extents-clause-wrong : goal.returns-in_err-extents-clause-wrong
returns-in_err-extents-clause-wrong g c =
    let blocks = g.B.Blocks.blocks c.args.blocks.now in
    let h : IsFaultOf (trees_fault (extents_counts blocks) (catalog_counts blocks) blocks) c.in_err-extents.field-0.0 =
    trees_extents blocks c.args.mdb.now c.requires.is c.in_err-extents.field-0.0 c.in_err-extents.ensures.wrong in
    search rules

pub returns-in_err-file-clause-wrong : goal.returns-in_err-file-clause-wrong
returns-in_err-file-clause-wrong g c =
    let blocks = g.B.Blocks.blocks c.args.blocks.now in
    let h : IsFaultOf (trees_fault (extents_counts blocks) (catalog_counts blocks) blocks) c.in_err-file.field-0.0 =
    trees_catalog blocks c.args.mdb.now c.requires.is c.in_err-file.field-0.0 c.in_ok-extents.ensures.right c.in_err-file.ensures.wrong in
    search rules
