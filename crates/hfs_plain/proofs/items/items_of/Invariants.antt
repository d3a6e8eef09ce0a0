use Rattle.std.proofs.Common.{◌≡◌, ◌++◌}
use Rattle.hfs_viewers.specs.Tables.{HasRows, item_of, shown}
use Rattle.hfs_plain.specs.Entries.{row_entries}
use Rattle.hfs_plain.proofs.items.items_of.Given as goal

abbrev pub invariant-loop-id : goal.invariant-loop-id
invariant-loop-id l =
    (goal.iterator-loop-id).can_next l.id-iterator ×
    (goal.iterator-loop-id).is_finite l.id-iterator ×
    (l.items.items ++ shown (item_of l.table.base l.table.mdb) l.id-iterator ≡ row_entries l.table) ×
    HasRows l.table l.id-iterator
