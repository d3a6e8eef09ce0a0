-- Lines of a text, and what is given after a label.
use Rattle.std.specs.Prelude.{ℕ, ◌==◌, if◌then◌else◌, List, [], ◌∷◌, length, take, drop, Option, Some, None, bytes_eq}
use Rattle.std.specs.Option.{option_or}

-- a character before the first line
abbrev pub onto_first : ℕ → List (List ℕ) → List (List ℕ)
onto_first c [] = (c ∷ []) ∷ []
onto_first c (line ∷ more) = (c ∷ line) ∷ more

-- the lines of a text, which line feeds end; the last may have none
unfoldable pub lines : List ℕ → List (List ℕ)
lines [] = []
lines (c ∷ rest) = if c == 10 then [] ∷ lines rest else onto_first c (lines rest)

-- what follows a label with which a line begins
abbrev pub behind_label : List ℕ → List ℕ → Option (List ℕ)
behind_label label line = if bytes_eq (take (length label) line) label then Some (drop (length label) line) else None

-- what follows it in the first of these lines that begins with it
unfoldable pub first_value : List ℕ → List (List ℕ) → Option (List ℕ)
first_value label [] = None
first_value label (line ∷ more) = option_or (behind_label label line) (first_value label more)
