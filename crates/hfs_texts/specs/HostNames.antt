-- Host names: how an item is called on a file system of any kind.
use Rattle.std.specs.Prelude.{ℕ, Bool, ◌||◌, ◌&&◌, ◌==◌, if◌then◌else◌, List, [], ◌∷◌, ◌++◌, length, codes}
use Rattle.std.specs.List.{list_any, before_first}
use Rattle.hfs_fields.specs.Order.{same_name}
use Rattle.hfs_texts.specs.Digits.{upper_byte}
use Rattle.hfs_texts.specs.MacRoman.{character_text}
use Rattle.hfs_texts.specs.PlainTexts.{is_control}

-- the characters that mean something to some host, and `=`, which precedes the digits of an escaped one
abbrev pub reserved_characters : List ℕ
reserved_characters = codes "%=/\\:*?\"<>|"

-- a character that no host name has as it is
unfoldable pub is_reserved : ℕ → Bool
is_reserved c = is_control c || list_any (λ reserved. reserved == c) reserved_characters

-- a point or a space, which some hosts drop at a name's end
abbrev pub is_dropped_at_end : ℕ → Bool
is_dropped_at_end c = c == 46 || c == 32

-- the names that some hosts keep for devices
abbrev pub devices : List (List ℕ)
devices = codes "CON" ∷ codes "PRN" ∷ codes "AUX" ∷ codes "NUL" ∷ []

abbrev pub ports : List (List ℕ)
ports = codes "COM1" ∷ codes "COM2" ∷ codes "COM3" ∷ codes "COM4" ∷ codes "COM5" ∷ codes "COM6" ∷ codes "COM7" ∷ codes "COM8" ∷ codes "COM9"
    ∷ codes "LPT1" ∷ codes "LPT2" ∷ codes "LPT3" ∷ codes "LPT4" ∷ codes "LPT5" ∷ codes "LPT6" ∷ codes "LPT7" ∷ codes "LPT8" ∷ codes "LPT9" ∷ []

-- a name that is, up to its first point, a device's, in whatever case its ASCII letters are
unfoldable pub is_device_name : List ℕ → Bool
is_device_name name = let stem = before_first (λ c. c == 46) name in list_any (same_name stem) devices || list_any (same_name stem) ports

-- a character of a host name: itself, or where it is escaped `=` and two upper-case hexadecimal digits of its byte
unfoldable pub host_character : Bool → ℕ → List ℕ
host_character is_escaped c = if is_escaped then 61 ∷ upper_byte c else character_text c

-- the characters after the first: the last one is escaped also where it would be dropped
unfoldable pub host_rest : List ℕ → List ℕ
host_rest [] = []
host_rest (c ∷ behind) = host_character (is_reserved c || length behind == 0 && is_dropped_at_end c) c ++ host_rest behind

-- whether a name's first character is escaped: also a point, the first of a device's name, and a space that is the whole name
abbrev pub is_first_escaped : ℕ → List ℕ → Bool
is_first_escaped c behind = is_reserved c || c == 46 || is_device_name (c ∷ behind) || length behind == 0 && is_dropped_at_end c

-- the host name of an item's name; `=` is that of the empty one
unfoldable pub host_name : List ℕ → List ℕ
host_name [] = codes "="
host_name (c ∷ behind) = host_character (is_first_escaped c behind) c ++ host_rest behind
