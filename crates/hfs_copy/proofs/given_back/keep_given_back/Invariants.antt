-- Those of the runs before the next came.
use Rattle.std.specs.Prelude.{take}
use Rattle.std.specs.List.{flat_map}
use Rattle.hfs_blocks.specs.Blocks.{run_of}
use Rattle.hfs_copy.specs.GivenBack.{GainsGivenBack}
use Rattle.hfs_copy.proofs.given_back.keep_given_back.Given as goal

abbrev pub invariant-loop-run : goal.invariant-loop-run
invariant-loop-run l = GainsGivenBack l.changed (flat_map run_of (take l.run-index l.runs)) l.initial.kept l.kept
