use Rattle.std.proofs.Common.{◌≡◌, ◌++◌, drop}
use Rattle.std.specs.List.{flat_map}
use Rattle.hfs_repair.specs.Puts.{number_puts}
use Rattle.hfs_repair.proofs.exchanging.byte_puts.Given as goal

abbrev pub invariant-loop-i : goal.invariant-loop-i
invariant-loop-i l = l.puts.items ++ flat_map (λ n. number_puts n.1) (drop l.i l.numbers) ≡ flat_map (λ n. number_puts n.1) l.numbers
