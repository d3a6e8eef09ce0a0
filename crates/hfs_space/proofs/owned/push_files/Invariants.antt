-- The extents of the files so far are added.
use Rattle.std.proofs.Common.{◌≡◌, ◌++◌, take}
use Rattle.std.specs.List.{flat_map}
use Rattle.hfs_space.specs.Owners.{extents_in}
use Rattle.hfs_space.specs.Runs.{forks_in}
use Rattle.hfs_space.proofs.owned.push_files.Given as goal

abbrev pub invariant-loop-file : goal.invariant-loop-file
invariant-loop-file l = l.owned.items ≡ l.initial.owned.items ++ flat_map (extents_in l.overflow) (forks_in (take l.file-index l.files))
