-- The bad blocks' extents of the records so far are added.
use Rattle.std.proofs.Common.{◌≡◌, ◌++◌, take}
use Rattle.hfs_space.specs.Owners.{bad_extents}
use Rattle.hfs_space.proofs.owned.push_bad.Given as goal

abbrev pub invariant-loop-r : goal.invariant-loop-r
invariant-loop-r l = l.owned.items ≡ l.initial.owned.items ++ bad_extents (take l.r-index l.overflow)
