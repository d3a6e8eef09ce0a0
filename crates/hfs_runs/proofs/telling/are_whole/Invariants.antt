use Rattle.std.proofs.Common.{take}
use Rattle.hfs_runs.specs.Tellings.{AreWhole}
use Rattle.hfs_runs.proofs.telling.are_whole.Given as goal

-- the told lists so far are whole
abbrev pub invariant-loop-answer : goal.invariant-loop-answer
invariant-loop-answer l = AreWhole (take l.answer-index l.answers)
