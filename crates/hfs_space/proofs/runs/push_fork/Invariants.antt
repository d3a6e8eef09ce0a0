-- The extents so far, and those of the records that go on from here, are all.
use Rattle.std.proofs.Common.{◌≡◌, ◌++◌, drop}
use Rattle.hfs_space.specs.Extents.{fork_extents, extents_from}
use Rattle.hfs_space.proofs.runs.push_fork.Given as goal

abbrev pub invariant-loop-i : goal.invariant-loop-i
invariant-loop-i l = l.extents.items ++ extents_from (drop l.i l.overflow) l.file l.fork l.block ≡ l.fn.extents.items ++ fork_extents l.overflow l.file l.fork l.first
