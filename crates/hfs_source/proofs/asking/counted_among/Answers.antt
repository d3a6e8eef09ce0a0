-- Range by range.
use Rattle.hfs_source.proofs.CandidateCounts.{counted_more, counted_end}
use Rattle.hfs_source.proofs.asking.counted_among.Goals as goal

pub loop-i-preserved : goal.loop-i-preserved
loop-i-preserved g c =
    record {
      left = λ file h. counted_more c.args.counted c.args.ranges.now file c.loop-i.i c.loop-i-test.true _ c.loop-i.inside.items c.push_counted.new.inside.items
          (c.in_ok-push_counted.ensures.pushed file h) (c.loop-i.invariant.left file (c.in_ok-push_counted.ensures.held file h));
      held = λ file h. c.loop-i.invariant.held file (c.in_ok-push_counted.ensures.held file h);
      later = λ place count fails. c.loop-i.invariant.later place count (c.in_ok-push_counted.ensures.later place count fails);
    }

pub returns-clause-inside : goal.returns-clause-inside
returns-clause-inside g c = λ file h. counted_end c.args.counted c.args.ranges.now file c.loop-i.i c.loop-i-test.false c.loop-i.inside.items (c.loop-i.invariant.left file h)
