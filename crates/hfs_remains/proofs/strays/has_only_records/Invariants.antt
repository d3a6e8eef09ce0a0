-- The records so far are catalog records.
use Rattle.std.proofs.Common.{◌≡◌, true, take}
use Rattle.std.specs.List.{list_all}
use Rattle.hfs_remains.specs.CatalogRecords.{is_catalog_record}
use Rattle.hfs_remains.proofs.strays.has_only_records.Given as goal

abbrev pub invariant-loop-i : goal.invariant-loop-i
invariant-loop-i l = list_all is_catalog_record (take l.i l.node.records) ≡ true
