-- The files that were taken, and those of the records that are left, are all.
use Rattle.std.proofs.Common.{◌≡◌, ◌++◌, drop}
use Rattle.hfs_space.specs.Runs.{files_in}
use Rattle.hfs_check.proofs.catalog_files.catalog_files.Given as goal

abbrev pub invariant-loop-i : goal.invariant-loop-i
invariant-loop-i l = l.files.items ++ files_in l.i (drop l.i l.records) ≡ files_in 0 l.records
