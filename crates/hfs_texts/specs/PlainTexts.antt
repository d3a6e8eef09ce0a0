-- Plain text: bytes of a Macintosh as they are in tables.
use Rattle.std.specs.Prelude.{◌≡◌, ℕ, Bool, not, ◌&&◌, ◌||◌, ◌==◌, nat_lt, if◌then◌else◌, List, ◌∷◌, flat_map, IsAscii}
use Rattle.hfs_texts.specs.Digits.{hex_byte}
use Rattle.hfs_texts.specs.MacRoman.{character_text}

-- a byte that is no printable character
abbrev pub is_control : ℕ → Bool
is_control byte = nat_lt byte 0x20 || byte == 0x7F

-- a byte: its character, but a backslash and two lower-case hexadecimal digits where it is no printable character or a backslash
unfoldable pub plain_character : ℕ → List ℕ
plain_character byte = if is_control byte || byte == 0x5C then 0x5C ∷ hex_byte byte else character_text byte

-- the plain text of bytes
unfoldable pub plain_text : List ℕ → List ℕ
plain_text bytes = flat_map plain_character bytes

-- a byte of ASCII that is printable, and no backslash
unfoldable pub is_itself : ℕ → Bool
is_itself byte = (nat_lt byte 0x80 && not (is_control byte)) && not (byte == 0x5C)

-- bytes of ASCII that are their own plain text
abbrev pub IsOwnText : List ℕ → Type 0
IsOwnText bytes = IsAscii bytes × (plain_text bytes ≡ bytes)
