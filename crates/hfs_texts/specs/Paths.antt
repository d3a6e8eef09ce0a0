-- The names that the text of a Mac path gives: names with `:` between, in which a backslash and two hexadecimal digits mean
-- the byte of this value, and any other byte for itself.
use Rattle.std.specs.Prelude.{ℕ, ◌+◌, ◌-◌, ◌*◌, ◌&&◌, ◌==◌, nat_le, if◌then◌else◌, List, [], ◌∷◌, ◌++◌, length, Option, Some, None, codes}
use Rattle.std.specs.List.{fold}
use Rattle.std.specs.Option.{option_map, option_map_or, option_and_then}
use Rattle.std.proofs.Common.{Vec, Global}
use Rattle.std.specs.Str.{bytes_eq}
use Rattle.hfs_texts.specs.declared.reading.Reading.{Reading}
use Rattle.hfs_texts.specs.declared.reading.Stage.{Stage}
use Rattle.hfs_texts.specs.declared.reading.Stage.TheVariants.{Character, FirstDigit, SecondDigit, Wrong}

-- the value of a hexadecimal digit in either case
unfoldable pub digit_value : ℕ → Option ℕ
digit_value c =
    if nat_le 48 c && nat_le c 57 then Some (c - 48)
    else if nat_le 97 c && nat_le c 102 then Some (c - 97 + 10)
    else if nat_le 65 c && nat_le c 70 then Some (c - 65 + 10)
    else None

-- the byte of two of them
unfoldable pub byte_of : ℕ → ℕ → Option ℕ
byte_of first second = option_and_then (λ (high : ℕ). option_map (λ (low : ℕ). 16 * high + low) (digit_value second)) (digit_value first)

-- what was read of a text: the names that ended, the bytes of the one that goes on, and how the next byte is taken
pub record Read : Type 0 where
  pub names : List (List ℕ)
  pub name : List ℕ
  pub stage : Stage

abbrev pub at_stage : Stage → Read → Read
at_stage stage r = record { names = r.names; name = r.name; stage = stage }

-- with one byte more in the name
abbrev pub with_byte : ℕ → Read → Read
with_byte byte r = record { names = r.names; name = r.name ++ byte ∷ []; stage = Character }

-- the name ended; no name has more than 31 bytes
unfoldable pub closed : Read → Read
closed r = if nat_le (length r.name) 31 then record { names = r.names ++ r.name ∷ []; name = []; stage = r.stage } else at_stage Wrong r

-- ---- with one byte more of the text

unfoldable pub with_character : ℕ → Read → Read
with_character byte r = if byte == 58 then closed r else if byte == 92 then at_stage FirstDigit r else with_byte byte r

unfoldable pub with_second_digit : ℕ → ℕ → Read → Read
with_second_digit first byte r = option_map_or (λ (escaped : ℕ). with_byte escaped r) (byte_of first byte) (at_stage Wrong r)

abbrev pub read_at : Stage → ℕ → Read → Read
read_at Character byte r = with_character byte r
read_at FirstDigit byte r = at_stage (SecondDigit byte) r
read_at (SecondDigit first) byte r = with_second_digit first byte r
read_at Wrong byte r = r

unfoldable pub read_byte : Read → ℕ → Read
read_byte r byte = read_at r.stage byte r

-- ---- all bytes

abbrev pub unread : Read
unread = record { names = []; name = []; stage = Character }

-- the names, where what was read ends as a path does
abbrev pub names_at : Stage → Read → Option (List (List ℕ))
names_at Character r = Some r.names
names_at FirstDigit r = None
names_at (SecondDigit first) r = None
names_at Wrong r = None

unfoldable pub names_read : Read → Option (List (List ℕ))
names_read r = names_at (closed r).stage (closed r)

-- the names of a path, of `:` alone one that is empty; no text is no path
unfoldable pub path_names : List ℕ → Option (List (List ℕ))
path_names text =
    if length text == 0 then None
    else if bytes_eq text (codes ":") then Some ([] ∷ [])
    else names_read (fold read_byte unread text)

-- ---- as the code has it

abbrev pub read_of : Reading → Read
read_of reading = record { names = reading.names.items; name = reading.name.items; stage = reading.stage }

abbrev pub names_of : Vec (List ℕ) Global → List (List ℕ)
names_of names = names.items
