-- something has each name before this one
use Rattle.std.proofs.Common.{◌≡◌}
use Rattle.hfs_bag.specs.Removals.{with_taken}
use Rattle.hfs_bag.proofs.files.new_folder.Given as goal

abbrev pub invariant-loop-number : goal.invariant-loop-number
invariant-loop-number g l = g.Y.FileSystem.did l.system ≡ with_taken l.fn.path l.number (g.Y.FileSystem.did l.fn.system)
