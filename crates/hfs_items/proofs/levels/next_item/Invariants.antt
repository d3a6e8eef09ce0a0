use Rattle.std.proofs.Common.{length, ◌-◌, ◌≡◌}
use Rattle.hfs_items.specs.Levels.{level_items}
use Rattle.hfs_items.proofs.levels.next_item.Given as goal

abbrev pub invariant-loop-place : goal.invariant-loop-place
invariant-loop-place l = level_items l.records l.level ≡ level_items l.records (record l.level { next = l.place })

abbrev pub decreases-loop-place : goal.decreases-loop-place
decreases-loop-place l = length l.records - l.place
