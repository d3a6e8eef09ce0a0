-- Numbers in a script.
use Rattle.std.specs.Prelude.{ℕ, ◌^◌, ◌&&◌, nat_le, nat_lt, Bool, if◌then◌else◌, List, length, Option, Some, None}
use Rattle.std.specs.Str.{all_ascii_digits}
use Rattle.std.specs.Str.Parse.{digits_value}

-- one to ten decimal digits, of value at most 4,294,967,295
abbrev pub is_number : List ℕ → Bool
is_number field = nat_le 1 (length field) && nat_le (length field) 10 && all_ascii_digits field && nat_lt (digits_value 10 field) (2 ^ 32)

-- the number that a field writes
unfoldable pub number_of : List ℕ → Option ℕ
number_of field = if is_number field then Some (digits_value 10 field) else None
