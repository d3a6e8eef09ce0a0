-- Of the runs that have begun the last alone may have the block.
use Rattle.std.proofs.Common.{◌-◌, sym, arith}
use Rattle.hfs_space.proofs.ZeroLemmas.{none-begun, last-begun}
use Rattle.hfs_space.proofs.zero_runs.is_in_runs.Goals as goal

pub overflow_sub-result : goal.overflow_sub-result
overflow_sub-result c = c.begun-count.ensures.before (c.begun-count.result - 1) _ (omega arith)

pub returns-then-count-eq0 : goal.returns-then-count-eq0
returns-then-count-eq0 c = sym (none-begun c.args.runs.now c.args.n c.begun-count.result c.begun-count.ensures c.if-count-eq0.true)

pub returns : goal.returns
returns c = sym (last-begun c.args.runs.now c.args.n c.begun-count.result c.requires c.begun-count.ensures (omega arith) _)
