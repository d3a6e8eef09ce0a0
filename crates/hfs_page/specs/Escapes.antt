-- Texts in markup.
use Rattle.std.specs.Prelude.{ℕ, ◌==◌, if◌then◌else◌, List, [], ◌∷◌, codes}
use Rattle.std.specs.List.{flat_map}

-- a byte of a text: the five characters that markup is made of are written as references
unfoldable pub escaped_byte : ℕ → List ℕ
escaped_byte b =
    if b == 0x26 then codes "&amp;" else if b == 0x3C then codes "&lt;" else if b == 0x3E then codes "&gt;"
    else if b == 0x22 then codes "&quot;" else if b == 0x27 then codes "&#39;" else b ∷ []

unfoldable pub escaped : List ℕ → List ℕ
escaped text = flat_map escaped_byte text
