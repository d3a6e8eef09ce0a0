-- Which path a fault of the shelf of files names.
use Rattle.std.specs.Prelude.{◌≡◌, ℕ, List, ◌⊎◌, ⊤, string_bytes}
use Rattle.hfs_bag.specs.ShelfPaths.{IsNewFolder, path_within}
use Rattle.hfs_bag.specs.declared.shelf_fault.ShelfFault.{ShelfFault}
use Rattle.hfs_bag.specs.declared.shelf_fault.ShelfFault.TheVariants as fault

-- this path, where it names one
abbrev pub Tells : List ℕ → ShelfFault → Type 0
Tells path (fault.CannotWrite told) = string_bytes told ≡ path
Tells path fault.NoMemory = ⊤

-- the path of a folder that is to be written, or of one of the hundred in which it may be written
abbrev pub TellsNewFolder : List ℕ → ShelfFault → Type 0
TellsNewFolder path (fault.CannotWrite told) = IsNewFolder path (string_bytes told) ⊎ (string_bytes told ≡ path)
TellsNewFolder path fault.NoMemory = ⊤

-- the path of a folder, or of what lies in it
abbrev pub IsFolderOrIn : List ℕ → List ℕ → Type 0
IsFolderOrIn folder told = (told ≡ folder) ⊎ ((path : List ℕ) × (told ≡ path_within folder path))

-- one of these, where it names a path
abbrev pub TellsWithin : List ℕ → ShelfFault → Type 0
TellsWithin folder (fault.CannotWrite told) = IsFolderOrIn folder (string_bytes told)
TellsWithin folder fault.NoMemory = ⊤
