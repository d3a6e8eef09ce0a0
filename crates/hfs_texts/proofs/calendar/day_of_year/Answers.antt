-- month by month
use Rattle.std.proofs.Common.{◌∙◌, ◌+◌, arith}
use Rattle.hfs_texts.proofs.Days.{month-here, month-next, less-left, day_of_year-months, year_length-months}
use Rattle.hfs_texts.proofs.calendar.day_of_year.Goals as goal

pub loop-place-init : goal.loop-place-init
loop-place-init c = record {
  leads = rw c.month_lengths-lengths.ensures (day_of_year-months c.args.year c.args.days);
  left = rw c.month_lengths-lengths.ensures (omega (arith, year_length-months c.args.year));
}

pub returns-then-left-length : goal.returns-then-left-length
returns-then-left-length c =
    month-here c.args.year (c.loop-place.place + 1) c.loop-place.place c.loop-place.left c.month_lengths-lengths.result (omega arith) c.if-left-length.true
    ∙ c.loop-place.invariant.leads

pub loop-place-preserved : goal.loop-place-preserved
loop-place-preserved c = record {
  leads = month-next c.args.year (c.loop-place.place + 1) c.loop-place.place c.loop-place.left c.month_lengths-lengths.result (omega arith) c.if-left-length.false
      ∙ c.loop-place.invariant.leads;
  left = less-left c.loop-place.place c.loop-place.left c.month_lengths-lengths.result (omega arith) c.if-left-length.false c.loop-place.invariant.left;
}
