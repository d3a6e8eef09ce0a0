-- The blocks before the next came.
use Rattle.std.specs.List.{range_with_len}
use Rattle.hfs_copy.specs.Keeping.{GainsChanged}
use Rattle.hfs_copy.proofs.keeping.keep_all_changed.Given as goal

abbrev pub invariant-loop-n : goal.invariant-loop-n
invariant-loop-n g l = GainsChanged l.now.changed.now (g.B.Blocks.blocks l.now.below.now) (range_with_len 0 l.n) l.initial.kept l.kept
