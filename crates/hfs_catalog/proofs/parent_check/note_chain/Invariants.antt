use Rattle.hfs_catalog.specs.Parents.{ReachesRoot}
use Rattle.hfs_catalog.specs.Indexes.{AreRooted}
use Rattle.hfs_catalog.proofs.parent_check.note_chain.Given as goal

abbrev pub invariant-loop-step : goal.invariant-loop-step
invariant-loop-step l = AreRooted l.rooted l.catalog × ReachesRoot l.catalog l.id
