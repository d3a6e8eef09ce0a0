-- The runs so far, and those of the rest, are all.
use Rattle.hfs_put.proofs.ForkRunLists.{AreRunsSoFar}
use Rattle.hfs_put.proofs.extent_runs.push_extents.Given as goal

abbrev pub invariant-loop-extent : goal.invariant-loop-extent
invariant-loop-extent l = AreRunsSoFar l.mdb l.item l.fork l.extents l.initial.runs.items l.before l.extent-index l.runs.items
