use Rattle.std.proofs.Common.{◌≡◌}
use Rattle.std.specs.FinMap as finite
use Rattle.hfs_model.specs.Choices.{lies_in}
use Rattle.hfs_viewers.specs.Tables.{items_of}
use Rattle.hfs_viewers.proofs.table.Table.lies_in.Given as goal

abbrev pub invariant-loop-at : goal.invariant-loop-at
invariant-loop-at l = lies_in (finite.entries (items_of l.self)) l.left l.at l.up ≡ lies_in (finite.entries (items_of l.self)) l.initial.left l.initial.at l.up

abbrev pub decreases-loop-at : goal.decreases-loop-at
decreases-loop-at l = l.left
