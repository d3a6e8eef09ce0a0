-- Digits of numbers and bytes.
use Rattle.std.specs.Prelude.{ℕ, ◌+◌, ◌/◌, ◌%◌, nat_lt, if◌then◌else◌, List, [], ◌∷◌, ◌++◌, flat_map}

-- the lower-case hexadecimal digit
abbrev pub lower_digit : ℕ → ℕ
lower_digit d = if nat_lt d 10 then 48 + d else 87 + d

-- the upper-case hexadecimal digit
abbrev pub upper_digit : ℕ → ℕ
upper_digit d = if nat_lt d 10 then 48 + d else 55 + d

-- a byte as two lower-case hexadecimal digits
unfoldable pub hex_byte : ℕ → List ℕ
hex_byte byte = lower_digit (byte / 16) ∷ lower_digit (byte % 16) ∷ []

-- bytes as hexadecimal digits
unfoldable pub hex_text : List ℕ → List ℕ
hex_text bytes = flat_map hex_byte bytes

-- a byte as two upper-case hexadecimal digits
unfoldable pub upper_byte : ℕ → List ℕ
upper_byte byte = upper_digit (byte / 16) ∷ upper_digit (byte % 16) ∷ []

-- a number below 100 as two decimal digits
unfoldable pub two_digits : ℕ → List ℕ
two_digits n = (48 + n / 10) ∷ (48 + n % 10) ∷ []

-- a number below 10,000 as four decimal digits
unfoldable pub four_digits : ℕ → List ℕ
four_digits n = two_digits (n / 100) ++ two_digits (n % 100)
