-- Of the runs that have begun the last alone may have the block.
use Rattle.std.proofs.Common.{◌*◌, ◌-◌, sym, ap, ◌∙◌, arith}
use Rattle.hfs_put.specs.Beside.{is_in_runs}
use Rattle.hfs_put.proofs.BesideRuns.{none-begun, last-begun}
use Rattle.hfs_put.proofs.beside.is_in_runs.Goals as goal

pub overflow_sub-result : goal.overflow_sub-result
overflow_sub-result c = c.begun-count.ensures.before (c.begun-count.result - 1) _ (omega arith)

pub returns-then-count-eq0 : goal.returns-then-count-eq0
returns-then-count-eq0 c =
    sym (ap (is_in_runs c.args.runs.now) (sym c.from-byte.ensures)
    ∙ none-begun c.args.runs.now (512 * c.from-byte.result) c.begun-count.result c.begun-count.ensures c.if-count-eq0.true)

pub returns : goal.returns
returns c =
    sym (ap (is_in_runs c.args.runs.now) (sym c.from-byte.ensures)
    ∙ last-begun c.args.runs.now (512 * c.from-byte.result) c.begun-count.result c.requires c.begun-count.ensures (omega arith) _)
