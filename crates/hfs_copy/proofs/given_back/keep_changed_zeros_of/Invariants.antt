-- The blocks before the next came.
use Rattle.std.specs.List.{range_with_len}
use Rattle.hfs_copy.specs.GivenBack.{GainsGivenBack}
use Rattle.hfs_copy.proofs.given_back.keep_changed_zeros_of.Given as goal

abbrev pub invariant-loop-i : goal.invariant-loop-i
invariant-loop-i l = GainsGivenBack l.changed (range_with_len l.first l.i) l.initial.kept l.kept
