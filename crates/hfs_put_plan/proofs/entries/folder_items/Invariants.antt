-- Behind the items so far come those of the entries that are left.
use Rattle.std.proofs.Common.{◌≡◌, ◌≤◌, ◌-◌, ◌++◌, length, drop}
use Rattle.hfs_put_plan.specs.Entries.{items_from}
use Rattle.hfs_put_plan.proofs.entries.folder_items.Given as goal

abbrev pub invariant-loop-place : goal.invariant-loop-place
invariant-loop-place l = record {
  made : l.items.items ++ items_from l.place (drop l.place l.entries) ≡ items_from 0 l.entries;
  within : l.place ≤ length l.entries;
}

abbrev pub decreases-loop-place : goal.decreases-loop-place
decreases-loop-place l = length l.entries - l.place
