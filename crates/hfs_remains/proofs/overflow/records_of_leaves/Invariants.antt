-- Behind the records so far come those of the leaves that are left.
use Rattle.std.proofs.Common.{◌≡◌, ◌++◌, drop}
use Rattle.hfs_remains.specs.OverflowRecords.{overflow_in_leaves}
use Rattle.hfs_remains.proofs.overflow.records_of_leaves.Given as goal

abbrev pub invariant-loop-leaf : goal.invariant-loop-leaf
invariant-loop-leaf l = l.records.items ++ overflow_in_leaves (drop l.leaf-index l.leaves) ≡ overflow_in_leaves l.leaves
