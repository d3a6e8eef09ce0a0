-- The runs of the extents before the next came.
use Rattle.std.specs.Prelude.{take}
use Rattle.hfs_copy.specs.Keeping.{GainsExtents}
use Rattle.hfs_runs.proofs.extents.push_extents.Given as goal

abbrev pub invariant-loop-extent : goal.invariant-loop-extent
invariant-loop-extent l = GainsExtents l.mdb (take l.extent-index l.extents) l.initial.runs.items l.runs.items
