use Rattle.std.proofs.Common.{◌≡◌, [], take, drop}
use Rattle.hfs_fields.specs.First.{first_failing}
use Rattle.hfs_catalog.specs.Faults.{is_item_id_right}
use Rattle.hfs_catalog.proofs.id_check.first_wrong_id.Given as goal

abbrev pub invariant-loop-i : goal.invariant-loop-i
invariant-loop-i l = first_failing (is_item_id_right l.next) [] l.catalog ≡ first_failing (is_item_id_right l.next) (take l.i l.records) (drop l.i l.records)
