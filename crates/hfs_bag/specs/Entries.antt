-- What a shelf was given.
use Rattle.std.specs.Prelude.{◌≡◌, ℕ, List, [], ◌∷◌, ◌++◌, ◌⊎◌, ⊤, Option, Some}

-- a folder by its path; or a file by its path, the time that it is to have, in seconds since the beginning of 1970, where it is to have
-- one, and its bytes as far as they were given
pub data ShelfEntry : Type 0 where
  folder : List ℕ → ShelfEntry
  file : List ℕ → Option ℕ → List ℕ → ShelfEntry

-- the bytes of a piece lie after those of the last entry, where that is a file
abbrev pub longer : ShelfEntry → List ℕ → ShelfEntry
longer (folder path) piece = folder path
longer (file path time bytes) piece = file path time (bytes ++ piece)

-- what was given, and then a folder
abbrev pub with_folder : List ShelfEntry → List ℕ → List ShelfEntry
with_folder given path = given ++ folder path ∷ []

-- what was given, and then a file without bytes that is to have a time
abbrev pub with_file : List ShelfEntry → List ℕ → Option ℕ → List ShelfEntry
with_file given path time = given ++ file path time [] ∷ []

-- what was given, and then a piece of the last file
abbrev pub with_piece : List ShelfEntry → List ℕ → List ShelfEntry
with_piece [] piece = []
with_piece (entry ∷ []) piece = longer entry piece ∷ []
with_piece (entry ∷ next ∷ rest) piece = entry ∷ with_piece (next ∷ rest) piece

-- the last entry is to have a time, where it is a file
abbrev pub dated : ShelfEntry → ℕ → ShelfEntry
dated (folder path) time = folder path
dated (file path was bytes) time = file path (Some time) bytes

abbrev pub with_time : List ShelfEntry → ℕ → List ShelfEntry
with_time [] time = []
with_time (entry ∷ []) time = dated entry time ∷ []
with_time (entry ∷ next ∷ rest) time = entry ∷ with_time (next ∷ rest) time

-- a file of which only the first bytes are there
abbrev pub IsPart : ShelfEntry → ShelfEntry → Type 0
IsPart (file path time some) (file same when all) = (path ≡ same) × (time ≡ when) × ((rest : List ℕ) × (all ≡ some ++ rest))
IsPart (file path time some) (folder same) = ⊥
IsPart (folder path) whole = ⊥

-- the first entries of a list, each whole, but that of the last one, a file, the first bytes may be all
abbrev pub IsBeginning : List ShelfEntry → List ShelfEntry → Type 0
IsBeginning [] all = ⊤
IsBeginning (entry ∷ rest) [] = ⊥
IsBeginning (entry ∷ rest) (whole ∷ behind) = ((entry ≡ whole) × IsBeginning rest behind) ⊎ (IsPart entry whole × (rest ≡ []))
