use Rattle.std.proofs.Common.{◌≡◌, ◌++◌, ◌+◌, drop}
use Rattle.hfs_repair.specs.Puts.{puts_from}
use Rattle.hfs_repair.proofs.exchanging.push_bytes.Given as goal

abbrev pub invariant-loop-i : goal.invariant-loop-i
invariant-loop-i l = l.puts.items ++ puts_from (l.at + l.i) (drop l.i l.bytes) ≡ l.initial.puts.items ++ puts_from l.at l.bytes
