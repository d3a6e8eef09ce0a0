-- Times of files.
use Rattle.std.specs.Prelude.{ℕ, ◌-◌, leb, if◌then◌else◌, Option, Some, None}

-- the beginning of 1970 on a Macintosh, in seconds since midnight of 1 January 1904
unfoldable pub year_1970 : ℕ
year_1970 = 2_082_844_800

-- a moment on a Macintosh in seconds since the beginning of 1970, where it isn't before
unfoldable pub since_1970 : ℕ → Option ℕ
since_1970 moment = if leb year_1970 moment then Some (moment - year_1970) else None
