-- The records that the files so far go on with are marked.
use Rattle.std.proofs.Common.{take}
use Rattle.hfs_space.specs.Runs.{AddsUses, forks_in}
use Rattle.hfs_space.proofs.fork_checks.mark_files.Given as goal

abbrev pub invariant-loop-file : goal.invariant-loop-file
invariant-loop-file l = AddsUses l.overflow (forks_in (take l.file-index l.files)) l.initial.marks l.marks
