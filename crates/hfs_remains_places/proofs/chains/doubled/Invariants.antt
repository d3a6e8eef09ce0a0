-- The places so far.
use Rattle.std.proofs.Common.{◌≡◌, map}
use Rattle.std.specs.List.{range_with_len}
use Rattle.hfs_remains_places.specs.Chains.{twice}
use Rattle.hfs_remains_places.proofs.chains.doubled.Given as goal

abbrev pub invariant-loop-i : goal.invariant-loop-i
invariant-loop-i l = l.made.items ≡ map (twice l.jumps) (range_with_len 0 l.i)
