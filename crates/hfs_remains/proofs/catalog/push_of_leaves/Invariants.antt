-- Behind the records so far come those of the leaves that are left.
use Rattle.std.proofs.Common.{◌≡◌, ◌++◌, drop}
use Rattle.hfs_remains.specs.CatalogRecords.{found_in_leaves}
use Rattle.hfs_remains.proofs.catalog.push_of_leaves.Given as goal

abbrev pub invariant-loop-leaf : goal.invariant-loop-leaf
invariant-loop-leaf l = l.records.items ++ found_in_leaves (drop l.leaf-index l.leaves) ≡ l.initial.records.items ++ found_in_leaves l.leaves
