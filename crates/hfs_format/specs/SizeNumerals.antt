-- The size of a new volume and of its trees, by what is typed.
use Rattle.std.specs.Prelude.{ℕ, ◌<◌, ◌^◌, ◌/◌, List, nat_lt, Option, if◌then◌else◌}
use Rattle.std.specs.Option.{SomeIff}
use Rattle.std.specs.Str.Parse.{IsNumeral, digits_value, without_leading_plus}
use Rattle.hfs_format.specs.Plan.{allocation_blocks}

-- decimal digits, and there may be a plus first
abbrev pub numeral_in : List ℕ → List ℕ
numeral_in text = without_leading_plus text

-- the number that a text is, below 2 ^ 32, or none where it is none
abbrev pub IsNumberOf : List ℕ → Option ℕ → Type 0
IsNumberOf text found =
    SomeIff found (IsNumeral 10 (numeral_in text) × (digits_value 10 (numeral_in text) < 2 ^ 32)) (digits_value 10 (numeral_in text))

-- a node for each 128 allocation blocks, and at least so many
unfoldable pub chosen_nodes : ℕ → ℕ → ℕ
chosen_nodes least blocks = if nat_lt (allocation_blocks blocks / 128) least then least else allocation_blocks blocks / 128
