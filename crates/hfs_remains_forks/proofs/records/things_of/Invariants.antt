-- Behind the things so far come those of the items that are left.
use Rattle.std.proofs.Common.{◌≡◌, ◌++◌, map, drop}
use Rattle.hfs_remains_forks.specs.Records.{thing_of}
use Rattle.hfs_remains_forks.proofs.records.things_of.Given as goal

abbrev pub invariant-loop-item : goal.invariant-loop-item
invariant-loop-item l = l.things.items ++ map thing_of (drop l.item-index l.items) ≡ map thing_of l.items
