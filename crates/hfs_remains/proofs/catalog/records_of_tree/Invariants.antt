-- Behind the records so far come those of the entries that are left.
use Rattle.std.proofs.Common.{◌≡◌, ◌++◌}
use Rattle.hfs_remains.specs.CatalogRecords.{found_of}
use Rattle.hfs_remains.proofs.catalog.records_of_tree.Given as goal

abbrev pub invariant-loop-entry : goal.invariant-loop-entry
invariant-loop-entry l = l.records.items ++ found_of l.entry-iterator.rest.items ≡ found_of l.fn.entries.items
