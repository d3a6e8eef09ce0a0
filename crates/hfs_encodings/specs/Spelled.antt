-- Letters of a name, which are bytes of Mac OS Roman, as a text spells them: each by its character, or by a mark and two hexadecimal digits.
use Rattle.std.specs.Prelude.{ℕ, ◌+◌, ◌*◌, ◌-◌, Bool, ◌&&◌, ◌==◌, nat_le, nat_lt, if◌then◌else◌, List, [], ◌∷◌, Option, Some, None, map}
use Rattle.std.specs.List.{position}
use Rattle.hfs_texts.specs.MacRoman.{high_characters}
use Rattle.hfs_encodings.specs.declared.spelled.Spelling.{Spelling}
use Rattle.hfs_encodings.specs.declared.spelled.Spelling.TheVariants.{HostName, PlainText}

-- the byte that is at this place of the table of characters; 0 where there is none
abbrev pub high_byte : Option ℕ → ℕ
high_byte None = 0
high_byte (Some place) = 0x80 + place

-- the byte of a character, by its code point; 0, which no item name has, of one that Mac OS Roman lacks
unfoldable pub roman_byte : ℕ → ℕ
roman_byte code = if nat_lt code 0x80 then code else high_byte (position (λ c. c == code) high_characters)

-- the mark before the digits, by its code point: `=` in host names, a backslash in plain text
abbrev pub mark : Spelling → ℕ
mark HostName = 61
mark PlainText = 92

-- what a hexadecimal digit from ten on says, by its code point: one of `A` to `F` in host names, of `a` to `f` in plain text; 16 of what is none
unfoldable pub letter_value : Spelling → ℕ → ℕ
letter_value HostName code = if nat_le 65 code && nat_le code 70 then code - 55 else 16
letter_value PlainText code = if nat_le 97 code && nat_le code 102 then code - 87 else 16

-- what a hexadecimal digit says
unfoldable pub digit_value : Spelling → ℕ → ℕ
digit_value spelling code = if nat_le 48 code && nat_le code 57 then code - 48 else letter_value spelling code

-- two such digits
abbrev pub are_digits : Spelling → ℕ → ℕ → Bool
are_digits spelling high low = nat_lt (digit_value spelling high) 16 && nat_lt (digit_value spelling low) 16

-- the byte that two digits say
abbrev pub digits_byte : Spelling → ℕ → ℕ → ℕ
digits_byte spelling high low = digit_value spelling high * 16 + digit_value spelling low

-- the letters of a text, by the code points of its characters: a mark and two digits are the byte that these say, and any other character its own
unfoldable pub letters_in : Spelling → List ℕ → List ℕ
letters_in spelling [] = []
letters_in spelling (a ∷ []) = roman_byte a ∷ []
letters_in spelling (a ∷ b ∷ []) = roman_byte a ∷ roman_byte b ∷ []
letters_in spelling (a ∷ b ∷ c ∷ rest) =
    if (a == mark spelling) && are_digits spelling b c then digits_byte spelling b c ∷ letters_in spelling rest
    else roman_byte a ∷ letters_in spelling (b ∷ c ∷ rest)

-- the letters of a host name
abbrev pub host_letters : List ℕ → List ℕ
host_letters characters = letters_in HostName characters

-- the letters of plain text
abbrev pub plain_letters : List ℕ → List ℕ
plain_letters characters = letters_in PlainText characters

-- ---- as they are read

-- no item name has a letter from 128 on, and one such is as good as another
unfoldable pub seen_letter : ℕ → ℕ
seen_letter letter = if nat_lt letter 128 then letter else 0

abbrev pub seen_letters : Spelling → List ℕ → List ℕ
seen_letters spelling characters = map seen_letter (letters_in spelling characters)

-- the byte that two digits give where characters begin with them, and what follows these
unfoldable pub digits_in : Spelling → List ℕ → Option (ℕ × List ℕ)
digits_in spelling [] = None
digits_in spelling (b ∷ []) = None
digits_in spelling (b ∷ c ∷ rest) = if are_digits spelling b c then Some (digits_byte spelling b c, rest) else None
