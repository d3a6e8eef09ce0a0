-- None of the runs so far has so many.
use Rattle.std.proofs.Common.{◌≡◌, drop}
use Rattle.hfs_space.specs.Pieces.{first_with}
use Rattle.hfs_space.proofs.pieces.first_with.Given as goal

abbrev pub invariant-loop-run : goal.invariant-loop-run
invariant-loop-run l = record {
  later : first_with l.count (drop l.run-index l.runs) ≡ first_with l.count l.runs;
}
