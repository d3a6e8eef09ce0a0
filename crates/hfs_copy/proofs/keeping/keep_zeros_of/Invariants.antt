-- The blocks before the next came.
use Rattle.std.specs.List.{range_with_len}
use Rattle.hfs_copy.specs.Keeping.{GainsZeros}
use Rattle.hfs_copy.proofs.keeping.keep_zeros_of.Given as goal

abbrev pub invariant-loop-i : goal.invariant-loop-i
invariant-loop-i g l = GainsZeros (g.B.Blocks.blocks l.now) (range_with_len l.first l.i) l.initial.kept l.kept
