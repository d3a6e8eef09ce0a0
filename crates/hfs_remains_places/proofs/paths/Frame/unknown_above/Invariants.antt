-- The row leads from the folder to the place at which it is, whose chain ends in the steps that are left.
use Rattle.std.proofs.Common.{◌≡◌, ◌≤◌, None}
use Rattle.hfs_remains_places.specs.Chains.{ups_of, steps}
use Rattle.hfs_remains_places.proofs.RowLemmas.{LeadsTo}
use Rattle.hfs_remains_places.proofs.paths.Frame.unknown_above.Given as goal

abbrev pub invariant-loop-left : goal.invariant-loop-left
invariant-loop-left l = record {
  leads : LeadsTo l.self.things.now l.row.items l.i l.at;
  ended : steps (ups_of l.self.things.now) l.left l.at ≡ None;
}

abbrev pub decreases-loop-left : goal.decreases-loop-left
decreases-loop-left l = l.left
