-- The files so far are right.
use Rattle.std.proofs.Common.{◌≡◌, drop}
use Rattle.hfs_space.specs.Runs.{first_wrong_file}
use Rattle.hfs_space.proofs.fork_checks.first_wrong_file.Given as goal

abbrev pub invariant-loop-file : goal.invariant-loop-file
invariant-loop-file l = first_wrong_file l.mdb l.overflow (drop l.file-index l.files) ≡ first_wrong_file l.mdb l.overflow l.files
