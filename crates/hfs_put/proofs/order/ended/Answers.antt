-- The ends of the runs rise.
use Rattle.std.proofs.Common.{rules, of_calls, leb}
use Rattle.std.proofs.lemmas.Fn.{always_returns_same}
use Rattle.hfs_put.specs.Runs.{end_of}
use Rattle.hfs_put.proofs.OrderLemmas.{ended-parted, next-at}
use Rattle.hfs_put.proofs.order.ended.Goals as goal

pub returns : goal.returns
returns c =
    next-at c.args.runs.now c.args.byte c.partition_point.result c.partition_point.ensures.bound
    (c.partition_point.ensures.partitioned (λ run. leb (end_of run) c.args.byte) (always_returns_same _ _ _ (λ a r f k. search (rules, of_calls)))
    (ended-parted c.args.runs.now c.args.byte c.requires))
