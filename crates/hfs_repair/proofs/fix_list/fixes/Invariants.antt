use Rattle.std.proofs.Common.{◌≡◌, ◌++◌, drop, map}
use Rattle.hfs_repair.specs.Fixes.{fix_of}
use Rattle.hfs_repair.proofs.fix_list.fixes.Given as goal

abbrev pub invariant-loop-i : goal.invariant-loop-i
invariant-loop-i l = l.fixes.items ++ map fix_of (drop l.i l.numbers) ≡ map fix_of l.numbers
