-- Moments read back: the date that a text of the form YYYY-MM-DDThh:mm:ss says, in seconds since midnight of 1 January 1904.
use Rattle.std.specs.Prelude.{ℕ, ◌+◌, ◌*◌, ◌-◌, Bool, ◌&&◌, ◌==◌, nat_le, nat_lt, if◌then◌else◌, List, [], ◌∷◌, length, slice_index, Option, Some, None}
use Rattle.hfs_texts.specs.Calendar.{days_before, is_leap_year, month_lengths}

-- ---- digits and marks

abbrev pub is_digit : ℕ → Bool
is_digit c = nat_le 48 c && nat_le c 57

-- the number that two decimal digits say, which are at a place of a text; 100 where one of them is none
unfoldable pub two_at : ℕ → List ℕ → ℕ
two_at place text =
    if is_digit (slice_index text place) && is_digit (slice_index text (place + 1)) then (slice_index text place - 48) * 10 + (slice_index text (place + 1) - 48) else 100

-- what is between the digits: two hyphens, `T` and two colons
unfoldable pub has_marks : List ℕ → Bool
has_marks text =
    (slice_index text 4 == 45) && (slice_index text 7 == 45) && (slice_index text 10 == 84) && (slice_index text 13 == 58) && (slice_index text 16 == 58)

-- ---- a day and a time

-- the days from 1 January 1904 to a day that the calendar has, up to the year 2043
unfoldable pub day_number : ℕ → ℕ → ℕ → Option ℕ
day_number year month day =
    if nat_le 1904 year && nat_le year 2043 && nat_le 1 month && nat_le month 12 && nat_le 1 day && nat_le day (slice_index (month_lengths year) (month - 1))
    then Some (days_before (record { year = year; month = month; day = day })) else None

-- a time that a day has
unfoldable pub is_time : List ℕ → Bool
is_time text = nat_lt (two_at 11 text) 24 && nat_lt (two_at 14 text) 60 && nat_lt (two_at 17 text) 60

-- the seconds from midnight to a time
unfoldable pub seconds_in : List ℕ → ℕ
seconds_in text = two_at 11 text * 3600 + two_at 14 text * 60 + two_at 17 text

-- ---- a date

-- a date of 32 bits
unfoldable pub within : ℕ → Option ℕ
within date = if nat_lt date 4294967296 then Some date else None

-- on a day, at the time that a text says
abbrev pub date_on : List ℕ → Option ℕ → Option ℕ
date_on text None = None
date_on text (Some days) = within (days * 86400 + seconds_in text)

-- of a text of 19 bytes
unfoldable pub dated : List ℕ → Option ℕ
dated text =
    if has_marks text && nat_lt (two_at 2 text) 100 && is_time text then date_on text (day_number (two_at 0 text * 100 + two_at 2 text) (two_at 5 text) (two_at 8 text))
    else None

-- of a text: 0 of none; no date of what is no moment
unfoldable pub date_in : List ℕ → Option ℕ
date_in text = if length text == 0 then Some 0 else if length text == 19 then dated text else None

-- ---- as days are counted

-- the days of a year before each of its months, where February has 28
unfoldable pub days_before_months : List ℕ
days_before_months = 0 ∷ 31 ∷ 59 ∷ 90 ∷ 120 ∷ 151 ∷ 181 ∷ 212 ∷ 243 ∷ 273 ∷ 304 ∷ 334 ∷ []

-- its leap days before one of its months
unfoldable pub leap_days : ℕ → ℕ → ℕ
leap_days year month = if nat_lt 2 month && is_leap_year year then 1 else 0
