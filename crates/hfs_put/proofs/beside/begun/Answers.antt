-- The runs are in the order of their places.
use Rattle.std.proofs.Common.{rules, of_calls, leb}
use Rattle.std.proofs.lemmas.Fn.{always_returns_same}
use Rattle.hfs_put_sources.specs.declared.fork_run.ForkRun.{ForkRun}
use Rattle.hfs_put.proofs.BesideRuns.{begun-parted, begun-point}
use Rattle.hfs_put.proofs.beside.begun.Goals as goal

pub returns : goal.returns
returns c =
    begun-point c.args.runs.now c.args.byte c.partition_point.result c.partition_point.ensures.bound
    (c.partition_point.ensures.partitioned (λ (run : ForkRun). leb run.place c.args.byte) (always_returns_same _ _ _ (λ a r f k. search (rules, of_calls)))
    (begun-parted c.args.runs.now c.args.byte c.requires))
