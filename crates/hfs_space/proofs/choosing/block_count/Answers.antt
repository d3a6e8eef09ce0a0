-- One more run.
use Rattle.std.proofs.Common.{arith}
use Rattle.std.proofs.lemmas.List.Sums.{sum_by_more, sum_by_more_le}
use Rattle.hfs_fields.specs.declared.extent.Extent.{Extent}
use Rattle.hfs_space.proofs.choosing.block_count.Goals as goal

pub overflow_add-total : goal.overflow_add-total
overflow_add-total c =
    let most = sum_by_more_le (λ (e : Extent). e.count) c.args.runs.now c.loop-run.run-index (record { first = 0; count = 0 }) c.loop-run-test.true in
    record { fits = omega (arith, most, c.from-total.ensures, c.loop-run.invariant.counted, c.requires) }

pub loop-run-preserved : goal.loop-run-preserved
loop-run-preserved c =
    let more = sum_by_more (λ (e : Extent). e.count) c.args.runs.now c.loop-run.run-index (record { first = 0; count = 0 }) c.loop-run-test.true in
    record { counted = omega (arith, more, c.from-total.ensures, c.loop-run.invariant.counted) }
