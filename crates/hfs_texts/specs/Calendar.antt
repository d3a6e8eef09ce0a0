-- The Gregorian calendar, from 1904 on.
use Rattle.std.specs.Prelude.{ℕ, zero, suc, ◌+◌, ◌-◌, ◌%◌, ◌≤◌, Bool, ◌&&◌, ◌||◌, not, ◌==◌, nat_lt, if◌then◌else◌, List, [], ◌∷◌, sum, take, slice_index}
use Rattle.hfs_texts.specs.declared.calendar.Day.{Day}

-- each fourth year is a leap year, but of those that end a century only each fourth
unfoldable pub is_leap_year : ℕ → Bool
is_leap_year year = (year % 4 == 0) && (not (year % 100 == 0) || (year % 400 == 0))

-- the days of a year's months
unfoldable pub month_lengths : ℕ → List ℕ
month_lengths year = 31 ∷ (if is_leap_year year then 29 else 28) ∷ 31 ∷ 30 ∷ 31 ∷ 30 ∷ 31 ∷ 31 ∷ 30 ∷ 31 ∷ 30 ∷ 31 ∷ []

unfoldable pub year_length : ℕ → ℕ
year_length year = sum (month_lengths year)

-- the day that comes so many days after the first of a month, by the lengths of this month and of those after it
unfoldable pub day_from_month : ℕ → ℕ → List ℕ → ℕ → Day
day_from_month year month [] days = record { year = year; month = month; day = days + 1 }
day_from_month year month (len ∷ lengths) days =
    if nat_lt days len then record { year = year; month = month; day = days + 1 } else day_from_month year (month + 1) lengths (days - len)

-- the day that comes so many days after the first of a year
unfoldable pub day_of_year : ℕ → ℕ → Day
day_of_year year days = day_from_month year 1 (month_lengths year) days

-- the same, where it lies in this year or in so many after it
unfoldable pub day_from_year : ℕ → ℕ → ℕ → Day
day_from_year zero year days = day_of_year year days
day_from_year (suc years) year days =
    if nat_lt days (year_length year) then day_of_year year days else day_from_year years (year + 1) (days - year_length year)

-- the day that comes so many days after 1 January 1904, up to the year 2043
unfoldable pub day_since_1904 : ℕ → Day
day_since_1904 days = day_from_year 139 1904 days

-- ---- what these days are, counted the other way

-- the days from 1 January 1904 to that of a year so many years after it
unfoldable pub days_of_years : ℕ → ℕ
days_of_years zero = 0
days_of_years (suc years) = days_of_years years + year_length (1904 + years)

-- the days from 1 January 1904 to this one
abbrev pub days_before : Day → ℕ
days_before day = days_of_years (day.year - 1904) + sum (take (day.month - 1) (month_lengths day.year)) + (day.day - 1)

-- a day that the calendar has
pub record IsDay (day : Day) : Type 0 where
  pub first_year : 1904 ≤ day.year
  pub last_year : day.year ≤ 2043
  pub first_month : 1 ≤ day.month
  pub last_month : day.month ≤ 12
  pub first_day : 1 ≤ day.day
  pub last_day : day.day ≤ slice_index (month_lengths day.year) (day.month - 1)
