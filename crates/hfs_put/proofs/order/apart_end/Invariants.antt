-- Those that are left lie apart behind the last, if all do.
use Rattle.std.proofs.Common.{◌≡◌, drop}
use Rattle.hfs_put.specs.Runs.{are_apart, last_end}
use Rattle.hfs_put.proofs.order.apart_end.Given as goal

abbrev pub invariant-loop-run : goal.invariant-loop-run
invariant-loop-run l = record {
  apart : are_apart 0 l.runs ≡ are_apart l.from (drop l.run-index l.runs);
  last : last_end 0 l.runs ≡ last_end l.from (drop l.run-index l.runs);
}
