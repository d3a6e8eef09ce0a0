-- The size of a new volume, as it is typed.
use Rattle.std.specs.Prelude.{◌≡◌, ℕ, ◌*◌, ◌%◌, ◌-◌, ◌<◌, ◌≤◌, ◌^◌, ◌==◌, if◌then◌else◌, List, length, take, Option, Some, None, is_some, unwrap_or, slice_index}
use Rattle.std.specs.Option.{SomeIff}
use Rattle.std.specs.Str.Parse.{IsNumeral, digits_value, without_leading_plus}
use Rattle.hfs_format.specs.declared.make_fault.MakeFault.{MakeFault}
use Rattle.hfs_format.specs.declared.make_fault.MakeFault.TheVariants.{BadSize}
use Rattle.hfs_format.specs.declared.volume_size.VolumeSize.{VolumeSize}

-- the last character; 0 where there is none
abbrev pub last_of : List ℕ → ℕ
last_of text = slice_index text (length text - 1)

-- how many bytes `K`, `M` and `G` mean
abbrev pub letter_bytes : ℕ → Option ℕ
letter_bytes letter =
    if letter == 75 then Some 1024
    else (if letter == 77 then Some 1048576
    else (if letter == 71 then Some 1073741824 else None))

-- how many bytes each one has that the digits count
unfoldable pub unit_in : List ℕ → ℕ
unit_in text = unwrap_or (letter_bytes (last_of text)) 1

-- what precedes the letter, or all where there is none
unfoldable pub digits_in : List ℕ → List ℕ
digits_in text = if is_some (letter_bytes (last_of text)) then take (length text - 1) text else text

-- decimal digits, and there may be a plus first
abbrev pub numeral_in : List ℕ → List ℕ
numeral_in digits = without_leading_plus digits

-- the number that digits are, below 2 ^ 64, or none where they are none
abbrev pub IsNumberOf : List ℕ → Option ℕ → Type 0
IsNumberOf digits found =
    SomeIff found (IsNumeral 10 (numeral_in digits) × (digits_value 10 (numeral_in digits) < 2 ^ 64)) (digits_value 10 (numeral_in digits))

-- how many bytes the text names
abbrev pub typed_bytes : List ℕ → ℕ
typed_bytes text = digits_value 10 (numeral_in (digits_in text)) * unit_in text

-- the text names a size: whole blocks of 512 bytes, from 64 KB to 2 GB
pub record IsSize (text : List ℕ) : Type 0 where
  pub numeral : IsNumeral 10 (numeral_in (digits_in text))
  pub whole : typed_bytes text % 512 ≡ 0
  pub least : 65536 ≤ typed_bytes text
  pub most : typed_bytes text ≤ 2147483648

abbrev pub IsSizeOf : List ℕ → VolumeSize → Type 0
IsSizeOf text size = IsSize text × (512 * size.blocks ≡ typed_bytes text)

abbrev pub IsBadSize : List ℕ → MakeFault → Type 0
IsBadSize text fault = (fault ≡ BadSize) × ¬ (IsSize text)
