use Rattle.std.proofs.Common.{◌≤◌, ◌-◌, length, drop}
use Rattle.hfs_fields.specs.Each.{Each}
use Rattle.hfs_btree_removal.proofs.down.last_wide.Given as goal

abbrev pub invariant-loop-i : goal.invariant-loop-i
invariant-loop-i l = Each (λ s. s.count ≤ 1) (drop (length l.steps - l.i) l.steps)
