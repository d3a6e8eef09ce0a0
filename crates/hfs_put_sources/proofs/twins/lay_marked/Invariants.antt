-- The items that are left come before those that were laid.
use Rattle.std.proofs.Common.{◌≡◌, ◌++◌, length, reverse}
use Rattle.hfs_put_sources.specs.Walks.{marked}
use Rattle.hfs_put_sources.proofs.twins.lay_marked.Given as goal

abbrev pub invariant-loop-item : goal.invariant-loop-item
invariant-loop-item l = marked l.items.items l.twins ++ reverse l.todo.items ≡ marked l.fn.items.items l.twins ++ reverse l.fn.todo.items

abbrev pub decreases-loop-item : goal.decreases-loop-item
decreases-loop-item l = length l.items.items
