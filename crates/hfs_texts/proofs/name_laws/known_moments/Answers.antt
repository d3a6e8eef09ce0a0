-- each is computed
use Rattle.std.proofs.Common.{refl}
use Rattle.hfs_texts.specs.Calendar.{is_leap_year, month_lengths, year_length, day_from_month, day_of_year, day_from_year, day_since_1904}
use Rattle.hfs_texts.specs.Digits.{two_digits, four_digits}
use Rattle.hfs_texts.specs.Moments.{day_text, time_text, moment}
use Rattle.hfs_texts.proofs.name_laws.known_moments.Goals as goal

pub returns : goal.returns
unfolding is_leap_year month_lengths year_length day_from_month day_of_year day_from_year day_since_1904 two_digits four_digits day_text time_text moment
returns c = record {
  none = refl;
  first = refl;
  leap_day_1904 = refl;
  day_behind_it = refl;
  year_2000 = refl;
  leap_day_2000 = refl;
  last = refl;
}
