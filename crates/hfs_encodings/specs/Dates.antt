-- Dates of a Macintosh, by those of AppleDouble.
use Rattle.std.specs.Prelude.{ℕ, ◌+◌, ◌-◌, ◌==◌, nat_lt, if◌then◌else◌}

-- seconds since 2000, in 32 bits of which the highest is the sign: seconds since 1904. The least number is a date that isn't set; what follows the last date is that one
unfoldable pub mac_date : ℕ → ℕ
mac_date seconds =
    if seconds == 2147483648 then 0 else if nat_lt seconds 1265437696 then seconds + 3029529600 else if nat_lt seconds 2147483648 then 4294967295 else seconds - 1265437696
