-- The owners by the items so far are counted.
use Rattle.std.proofs.Common.{take}
use Rattle.hfs_remains_forks.specs.Owners.{AddsOwners}
use Rattle.hfs_remains_forks.specs.Verdicts.{items_used}
use Rattle.hfs_remains_forks.proofs.salvage.own_items.Given as goal

abbrev pub invariant-loop-item : goal.invariant-loop-item
invariant-loop-item l = AddsOwners (items_used l.trees.total l.chains l.trees.mdb.now l.young (take l.item-index l.shares)) l.initial.owners l.owners
