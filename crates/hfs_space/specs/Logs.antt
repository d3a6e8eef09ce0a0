-- Blocks of forks that were written, as a log keeps them.
use Rattle.std.specs.Prelude.{ℕ, List, ◌++◌}
use Rattle.std.specs.List.{flat_map}
use Rattle.hfs_blocks.specs.Blocks.{run_of}
use Rattle.hfs_space.specs.declared.log.WrittenRuns.{WrittenRuns}

-- these blocks, and then those of the runs
abbrev pub with_runs : List ℕ → WrittenRuns → List ℕ
with_runs blocks w = blocks ++ flat_map run_of w.runs.now
