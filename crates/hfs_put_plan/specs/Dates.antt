-- Times of a host's files as dates of a Macintosh, which are seconds since midnight of 1 January 1904, from 0 to 4,294,967,295: what lies outside gets the nearest.
-- The year 1970 begins at 2,082,844,800.
use Rattle.std.specs.Prelude.{ℕ, ◌+◌, ◌-◌, Bool, nat_le, if◌then◌else◌}

-- so many seconds after the beginning of 1970
unfoldable pub date_since_1970 : ℕ → ℕ
date_since_1970 seconds = if nat_le (seconds + 2082844800) 4294967295 then seconds + 2082844800 else 4294967295

-- so many whole seconds before it, and a part of one more: rounded down
unfoldable pub date_before_1970 : ℕ → Bool → ℕ
date_before_1970 seconds has_part = if has_part then 2082844800 - seconds - 1 else 2082844800 - seconds
