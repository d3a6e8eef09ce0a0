-- The runs so far, and the first blocks of the extents that are left, are those of the file.
use Rattle.hfs_space.proofs.TreeRuns.{AreRunsOf}
use Rattle.hfs_space.proofs.tree_file.tree_runs.Given as goal

abbrev pub invariant-loop-extent : goal.invariant-loop-extent
invariant-loop-extent g l = AreRunsOf l.mdb l.extents l.size (g.B.Blocks.total l.blocks) l.runs.items l.rest l.extent-index
