-- The pieces so far, and those of the runs to come.
use Rattle.std.proofs.Common.{◌≡◌, ◌++◌, drop}
use Rattle.hfs_space.specs.Pieces.{first_blocks}
use Rattle.hfs_space.proofs.pieces.push_first_blocks.Given as goal

abbrev pub invariant-loop-run : goal.invariant-loop-run
invariant-loop-run l = record {
  more : l.pieces.items ++ first_blocks l.rest (drop l.run-index l.runs) ≡ l.initial.pieces.items ++ first_blocks l.count l.runs;
}
