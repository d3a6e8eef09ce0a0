-- what was done since the beginning only removes in the folder, and each folder on the way to the place was found
use Rattle.std.proofs.Common.{Global}
use Rattle.std.specs.Prelude.{string_bytes}
use Rattle.hfs_bag.proofs.Reached.{IsReached}
use Rattle.hfs_bag.proofs.removal.remove_folder.Given as goal

abbrev pub invariant-loop : goal.invariant-loop
invariant-loop g l = IsReached l.fn.folder (string_bytes {Z = Global} l.inner) (g.Y.FileSystem.did l.fn.system) (g.Y.FileSystem.did l.system)
