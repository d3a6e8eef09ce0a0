-- Moments: dates of a Macintosh, which are seconds since midnight of 1 January 1904 in no stated zone.
use Rattle.std.specs.Prelude.{ℕ, ◌/◌, ◌%◌, ◌==◌, if◌then◌else◌, List, [], ◌++◌, codes}
use Rattle.hfs_texts.specs.declared.calendar.Day.{Day}
use Rattle.hfs_texts.specs.Calendar.{day_since_1904}
use Rattle.hfs_texts.specs.Digits.{two_digits, four_digits}

-- YYYY-MM-DD
unfoldable pub day_text : Day → List ℕ
day_text day = four_digits day.year ++ codes "-" ++ two_digits day.month ++ codes "-" ++ two_digits day.day

-- hh:mm:ss, of so many seconds after midnight
unfoldable pub time_text : ℕ → List ℕ
time_text seconds = two_digits (seconds / 3600) ++ codes ":" ++ two_digits (seconds / 60 % 60) ++ codes ":" ++ two_digits (seconds % 60)

-- the moment of a date: no text where it is 0, else YYYY-MM-DDThh:mm:ss
unfoldable pub moment : ℕ → List ℕ
moment date = if date == 0 then [] else day_text (day_since_1904 (date / 86400)) ++ codes "T" ++ time_text (date % 86400)
