-- what is left, from the month that is looked at, leads to the day
use Rattle.std.proofs.Common.{◌≡◌, ◌+◌, ◌<◌, drop}
use Rattle.std.specs.Prelude.{sum}
use Rattle.hfs_texts.specs.Calendar.{day_from_month, day_of_year}
use Rattle.hfs_texts.proofs.calendar.day_of_year.Given as goal

abbrev pub invariant-loop-place : goal.invariant-loop-place
invariant-loop-place l = record {
  leads : day_from_month l.year (l.place + 1) (drop l.place l.length-items) l.left ≡ day_of_year l.year l.days;
  left : l.left < sum (drop l.place l.length-items);
}
