-- The blocks of the runs so far, from the `from`-th on.
use Rattle.std.proofs.Common.{◌≡◌, ◌<◌, ◌≤◌, length, take, drop}
use Rattle.std.specs.List.{All, flat_map}
use Rattle.hfs_blocks.specs.Blocks.{run_of}
use Rattle.hfs_space.specs.Zeros.{StayAmong}
use Rattle.hfs_space.proofs.zero_runs.runs_from.Given as goal

abbrev pub invariant-loop-i : goal.invariant-loop-i
invariant-loop-i l = record {
  few : l.i ≤ length l.runs;
  blocks : flat_map run_of l.rest.items ≡ drop l.from (flat_map run_of (take l.i l.runs));
  some : All (λ run. 0 < run.count) l.rest.items;
  among : StayAmong l.runs l.rest.items;
}
