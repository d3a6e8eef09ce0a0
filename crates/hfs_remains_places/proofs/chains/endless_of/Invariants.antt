-- The marks so far.
use Rattle.std.proofs.Common.{◌≡◌, map}
use Rattle.std.specs.List.{range_with_len}
use Rattle.hfs_remains_places.specs.Chains.{is_endless}
use Rattle.hfs_remains_places.proofs.chains.endless_of.Given as goal

abbrev pub invariant-loop-i : goal.invariant-loop-i
invariant-loop-i l = l.marks.items ≡ map (is_endless l.ups) (range_with_len 0 l.i)
