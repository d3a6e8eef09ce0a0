-- Numbers that are given as texts.
use Rattle.std.specs.Prelude.{ℕ, ◌<◌, ◌^◌, List, Option, Some, Result, OkIff}
use Rattle.std.specs.Str.Parse.{IsNumeral, digits_value, without_leading_plus}

-- the text is decimal digits, perhaps after a plus, of a number of so many bits, and that number was read; or it is not, and there is an error
abbrev pub ReadsNumber : {E : Type 0} → ℕ → List ℕ → Result (Option ℕ) E → Type 0
ReadsNumber bits text result =
    OkIff result (IsNumeral 10 (without_leading_plus text) × (digits_value 10 (without_leading_plus text) < 2 ^ bits)) (Some (digits_value 10 (without_leading_plus text)))
