use Rattle.std.proofs.Common.{◌∙◌, sym}
use Rattle.hfs_space.proofs.LawsProved.{no_tree_file_fault}
use Rattle.hfs_image.proofs.finding.file_runs.Goals as goal

pub tree_runs-requires-clause-extents : goal.tree_runs-requires-clause-extents
tree_runs-requires-clause-extents g c = ((no_tree_file_fault c.args.mdb.now c.args.extents.now c.args.size).0 (sym c.is_tree_file.ensures ∙ c.if-is_tree_file.true)).within
