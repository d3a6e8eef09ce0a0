-- Sector by sector.
use Rattle.std.proofs.Common.{◌/◌, ap, sym, arith}
use Rattle.hfs_source.specs.Sectors.{others_of}
use Rattle.hfs_source.proofs.DataLemmas.{others-end, others-more}
use Rattle.hfs_source.proofs.counting.count_others.Goals as goal

pub loop-n-preserved : goal.loop-n-preserved
loop-n-preserved g c =
    let sectors = c.len-sectors.result / 2352 in
    record {
      count = λ file holds.
          others-more c.loop-n.n sectors c.loop-n.others c.in_ok-others.field-0 file (others_of sectors file) (omega (arith, c.loop-n-test.true))
          (c.in_ok-others.ensures.count file holds) (c.loop-n.invariant.count file (c.in_ok-others.ensures.held file holds));
      few = omega (arith, c.loop-n.invariant.few, c.in_ok-others.ensures.small);
      held = λ file holds. c.loop-n.invariant.held file (c.in_ok-others.ensures.held file holds);
      later = λ place count fails. c.loop-n.invariant.later place count (c.in_ok-others.ensures.later place count fails);
    }

pub returns-clause-count : goal.returns-clause-count
returns-clause-count g c = λ file holds.
    others-end c.loop-n.n (c.len-sectors.result / 2352) c.loop-n.others file (omega (arith, c.loop-n-test.false))
    (ap (λ len. len / 2352) (sym (c.len-sectors.ensures file (c.loop-n.invariant.held file holds)))) (c.loop-n.invariant.count file holds)
