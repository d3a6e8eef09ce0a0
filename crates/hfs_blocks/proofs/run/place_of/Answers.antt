-- The run that the search finds is the one in which the node lies.
use Rattle.std.proofs.Common.{rules, of_calls, arith, leb}
use Rattle.std.proofs.lemmas.Fn.{always_returns_same}
use Rattle.hfs_blocks.proofs.FileRuns.{IsPlace, parted, placed}
use Rattle.hfs_blocks.proofs.run.place_of.Goals as goal

place : (c : goal.After-partition_point) → IsPlace c.args.runs.now c.args.n c.partition_point.result
place c =
    placed c.args.runs.now c.args.n c.partition_point.result c.requires.counted c.requires.within c.partition_point.ensures.bound
    (c.partition_point.ensures.partitioned (λ run. leb run.before c.args.n) (always_returns_same _ _ _ (λ a r f k. search (rules, of_calls))) (parted c.args.runs.now c.args.n c.requires.counted))

pub overflow_sub-result : goal.overflow_sub-result
overflow_sub-result c = (place c).some

pub returns-clause-within : goal.returns-clause-within
returns-clause-within c = omega (arith, (place c).some, c.partition_point.ensures.bound)

pub returns-clause-begins : goal.returns-clause-begins
returns-clause-begins c = (place c).begins

pub returns-clause-ends : goal.returns-clause-ends
returns-clause-ends c = (place c).ends
