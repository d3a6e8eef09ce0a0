use Rattle.std.proofs.Common.{◌≡◌, ◌-◌, length}
use Rattle.hfs_catalog.specs.Parents.{ReachesRoot, reaches_root}
use Rattle.hfs_catalog.proofs.parent_check.reaches_root.Given as goal

abbrev pub invariant-loop-step : goal.invariant-loop-step
invariant-loop-step l = (reaches_root l.catalog (length l.catalog) l.from ≡ reaches_root l.catalog (length l.catalog - l._step) l.at) × (ReachesRoot l.catalog l.at → ReachesRoot l.catalog l.from)
