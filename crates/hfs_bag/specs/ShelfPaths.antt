-- The paths of what lies on a shelf of files.
use Rattle.std.specs.Prelude.{◌≡◌, ℕ, ◌<◌, List, ◌++◌, codes}
use Rattle.std.specs.Fmt.{decimal}

-- the path of the folder in which a folder is written, by the number in its name
unfoldable pub new_folder_path : List ℕ → ℕ → List ℕ
new_folder_path path number = path ++ (codes "." ++ (decimal number ++ codes ".new"))

-- a path within a folder
unfoldable pub path_within : List ℕ → List ℕ → List ℕ
path_within folder path = folder ++ (codes "/" ++ path)

-- the path of one of the hundred folders in which a folder may be written
abbrev pub IsNewFolder : List ℕ → List ℕ → Type 0
IsNewFolder path name = (number : ℕ) × (number < 100) × (name ≡ new_folder_path path number)
