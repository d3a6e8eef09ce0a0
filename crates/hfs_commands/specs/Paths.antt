-- How paths are printed, and the names of files beside another.
use Rattle.std.specs.Prelude.{◌≡◌, ℕ, zero, suc, ◌<◌, ◌||◌, ◌==◌, nat_lt, if◌then◌else◌, Bool, List, [], ◌∷◌, ◌++◌, codes, Option, None, Some}
use Rattle.std.specs.List.{flat_map}
use Rattle.std.specs.Fmt.{decimal}
use Rattle.hfs_texts.specs.Lines.{hex_byte}

-- a byte that would steer a terminal, or the backslash, which begins what is printed in its place
unfoldable pub is_escaped : ℕ → Bool
is_escaped b = nat_lt b 0x20 || b == 0x7F || b == 0x5C

-- a backslash and two lower-case hexadecimal digits
unfoldable pub escaped_byte : ℕ → List ℕ
escaped_byte b = 92 ∷ hex_byte b

-- a byte of a path: digits behind a backslash where it is below $20, $7F or the backslash, else
-- itself
unfoldable pub path_byte : ℕ → List ℕ
path_byte b = if is_escaped b then escaped_byte b else b ∷ []

-- a path, byte for byte
unfoldable pub path_text : List ℕ → List ℕ
path_text path = flat_map path_byte path

-- the path of a new file beside another, by the number in its name
unfoldable pub path_beside : List ℕ → ℕ → List ℕ
path_beside path number = path ++ codes "." ++ decimal number ++ codes ".new"

-- what is told of a file that a run left that was stopped
unfoldable pub leftover_text : List ℕ → List ℕ
leftover_text path = path_text path ++ codes " is there, left by a run that was stopped"

-- of the files beside a path whose numbers come before this one, the first: what is told where they
-- were there already
abbrev pub taken_before : List ℕ → ℕ → Option (List ℕ)
taken_before path zero = None
taken_before path (suc number) = Some (path_beside path 0)

-- a new file has the name of a number below 100, and where names before it were taken the first of
-- them is told
pub record IsBeside (path : List ℕ) (name : List ℕ) (told : Option (List ℕ)) : Type 0 where
  pub number : ℕ
  pub few : number < 100
  pub name_is : name ≡ path_beside path number
  pub told_is : told ≡ taken_before path number

-- nothing is told, or the first name beside a path
abbrev pub TellsFirst : List ℕ → Option (List ℕ) → Type 0
TellsFirst path told = (number : ℕ) × (told ≡ taken_before path number)
