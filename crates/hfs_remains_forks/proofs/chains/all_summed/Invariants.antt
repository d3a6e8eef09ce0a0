-- The sums so far.
use Rattle.std.proofs.Common.{◌≡◌, map}
use Rattle.std.specs.List.{range_with_len}
use Rattle.hfs_remains_forks.specs.Chains.{summed}
use Rattle.hfs_remains_forks.proofs.chains.all_summed.Given as goal

abbrev pub invariant-loop-i : goal.invariant-loop-i
invariant-loop-i l = l.made.items ≡ map (summed l.sums l.jumps) (range_with_len 0 l.i)
