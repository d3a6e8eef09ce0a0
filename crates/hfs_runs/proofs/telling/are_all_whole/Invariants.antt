use Rattle.std.proofs.Common.{take}
use Rattle.hfs_runs.specs.Tellings.{AreWhole, OfEach}
use Rattle.hfs_runs.proofs.telling.are_all_whole.Given as goal

-- what the workers so far were told is whole
abbrev pub invariant-loop-done : goal.invariant-loop-done
invariant-loop-done l = OfEach AreWhole (take l.done-index l.dones)
