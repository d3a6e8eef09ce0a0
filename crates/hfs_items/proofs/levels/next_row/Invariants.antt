use Rattle.std.proofs.Common.{◌≡◌, ◌≤◌, ℕ, List, length}
use Rattle.hfs_items.specs.Levels.{rows_left}
use Rattle.hfs_items.proofs.levels.next_row.Given as goal

abbrev pub invariant-loop-level : goal.invariant-loop-level
invariant-loop-level l =
    ((path : List (List ℕ)) → rows_left l.records 0 path l.fn.levels.items ≡ rows_left l.records 0 path l.levels.items) × (length l.levels.items ≤ length l.fn.levels.items)

abbrev pub decreases-loop-level : goal.decreases-loop-level
decreases-loop-level l = length l.levels.items
