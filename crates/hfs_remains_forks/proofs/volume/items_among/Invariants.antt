-- Behind the items so far come those of the records that are left.
use Rattle.std.proofs.Common.{◌≡◌, ◌++◌}
use Rattle.hfs_remains_forks.specs.Volumes.{young_items}
use Rattle.hfs_remains_forks.proofs.volume.items_among.Given as goal

abbrev pub invariant-loop-entry : goal.invariant-loop-entry
invariant-loop-entry l = l.items.items ++ young_items l.entry-iterator.rest.items ≡ young_items l.fn.entries.items
