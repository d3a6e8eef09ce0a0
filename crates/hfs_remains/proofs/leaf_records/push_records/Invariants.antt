-- Behind the records so far come those of the node that are left.
use Rattle.std.proofs.Common.{◌≡◌, ◌++◌, drop}
use Rattle.hfs_remains.specs.LeafRecords.{with_age}
use Rattle.hfs_remains.proofs.leaf_records.push_records.Given as goal

abbrev pub invariant-loop-i : goal.invariant-loop-i
invariant-loop-i l = l.records.items ++ with_age l.old (drop l.i l.node.records) ≡ l.initial.records.items ++ with_age l.old l.node.records
