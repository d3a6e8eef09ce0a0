-- From where to where a fork is written: zeros from `from` up to `end`, and `count` bytes from `offset` on.
use Rattle.std.specs.Prelude.{ℕ, ◌+◌, min, max, nat_lt, if◌then◌else◌}

-- the first of these; where there are none, the greatest number
abbrev pub first_written : ℕ → ℕ → ℕ → ℕ → ℕ
first_written from end offset count = min (if nat_lt from end then from else 4294967295) (if nat_lt 0 count then offset else 4294967295)

-- the place after the last of these; where there are none, 0
abbrev pub last_written : ℕ → ℕ → ℕ → ℕ → ℕ
last_written from end offset count = max (if nat_lt from end then end else 0) (if nat_lt 0 count then offset + count else 0)
