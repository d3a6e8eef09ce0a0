-- The runs are in the order of their first blocks.
use Rattle.std.proofs.Common.{rules, of_calls, leb}
use Rattle.std.proofs.lemmas.Fn.{always_returns_same}
use Rattle.hfs_space.proofs.ZeroLemmas.{begun-parted, begun-point}
use Rattle.hfs_space.proofs.zero_runs.begun.Goals as goal

pub returns : goal.returns
returns c =
    begun-point c.args.runs.now c.args.n c.partition_point.result c.partition_point.ensures.bound
    (c.partition_point.ensures.partitioned (λ run. leb run.first c.args.n) (always_returns_same _ _ _ (λ a r f k. search (rules, of_calls))) (begun-parted c.args.runs.now c.args.n c.requires))
