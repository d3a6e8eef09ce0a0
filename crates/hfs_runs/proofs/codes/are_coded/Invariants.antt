use Rattle.std.proofs.Common.{take}
use Rattle.hfs_runs.specs.Answers.{told_replies}
use Rattle.hfs_runs.specs.Codes.{AreCoded}
use Rattle.hfs_runs.proofs.codes.are_coded.Given as goal

-- the entries so far have their codes
abbrev pub invariant-loop-entry : goal.invariant-loop-entry
invariant-loop-entry l = AreCoded (told_replies l.told) (take l.entry-index l.journal)
