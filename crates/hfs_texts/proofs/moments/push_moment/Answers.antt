-- a day's year has four digits, its month and day two
use Rattle.std.proofs.Common.{◌/◌, arith}
use Rattle.hfs_texts.proofs.DayLaw.{found-day, day-digits}
use Rattle.hfs_texts.proofs.moments.push_moment.Goals as goal

pub push_day-requires-clause-year : goal.push_day-requires-clause-year
push_day-requires-clause-year c =
    let d = (found-day (c.args.date / 86400) (omega arith)).is_day in
    rw c.day_since_1904.ensures (omega (arith, d.last_year))

pub push_day-requires-clause-month : goal.push_day-requires-clause-month
push_day-requires-clause-month c =
    let d = (found-day (c.args.date / 86400) (omega arith)).is_day in
    rw c.day_since_1904.ensures (omega (arith, d.last_month))

pub push_day-requires-clause-day : goal.push_day-requires-clause-day
push_day-requires-clause-day c = rw c.day_since_1904.ensures (day-digits (c.args.date / 86400) (omega arith))
