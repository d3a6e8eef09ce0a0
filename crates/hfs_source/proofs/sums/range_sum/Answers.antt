-- Piece by piece.
use Rattle.std.proofs.Common.{◌≡◌, ◌+◌, ◌-◌, min, arith, rules}
use Rattle.hfs_source.proofs.SumLemmas.{goes_on, goes_whole}
use Rattle.hfs_source.proofs.sums.range_sum.Goals as goal

pub loop-done-preserved : goal.loop-done-preserved
loop-done-preserved g c =
    let place : c.in-Some.place ≡ c.args.range.start + c.loop-done.done = search rules in
    let size : c.min-count.result ≡ min (c.args.range.len - c.loop-done.done) 16384 = search rules in
    record {
      sum = λ file h. goes_on c.args.range file c.loop-done.sum c.in_ok-sum.sum c.loop-done.done c.min-count.result c.in-Some.place place c.loop-done-test.true size
          (c.in_ok-sum.ensures.sum file h) (c.loop-done.invariant.sum file (c.in_ok-sum.ensures.held file h));
      within = omega (arith, size, c.loop-done-test.true);
      held = λ file h. c.loop-done.invariant.held file (c.in_ok-sum.ensures.held file h);
      later = λ place count fails. c.loop-done.invariant.later place count (c.in_ok-sum.ensures.later place count fails);
    }

pub returns-clause-sum : goal.returns-clause-sum
returns-clause-sum g c = λ file h. goes_whole c.args.range file c.loop-done.sum c.loop-done.done c.loop-done-test.false (c.loop-done.invariant.sum file h)
