use Rattle.std.proofs.Common.{arith}
use Rattle.hfs_remains.proofs.FileLemmas.{files-there}
use Rattle.hfs_remains.proofs.tree_file.file_blocks.Goals as goal

pub returns-clause-there : goal.returns-clause-there
returns-clause-there c =
    files-there c.args.total c.args.mdb.now c.args.extents.now c.loop-extent.marks.items c.loop-extent.file.items c.loop-extent.extent-index (omega arith) c.loop-extent.invariant.makes
