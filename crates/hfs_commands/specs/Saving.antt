-- What is written over, and what is told of it.
use Rattle.std.specs.Prelude.{◌≡◌, ◌≢◌, ◌⊎◌, ℕ, List, Option, bit_and, ⊤}
use Rattle.std.specs.Borrow.{Bor}
use Rattle.std.specs.Fs.{IsFile, file_type, metadata_mode}
use Rattle.hfs_commands.specs.declared.saving.Target.{Target}
use Rattle.hfs_commands.specs.declared.saving.Target.TheVariants as target
use Rattle.hfs_commands.specs.declared.fault.Fault.{Fault}
use Rattle.hfs_commands.specs.declared.fault.Fault.TheVariants.{CannotRead, CannotWrite, IsThere, NoMemory}
use Rattle.hfs_commands.specs.Paths.{TellsFirst}

-- what is written over is a regular file that somebody may write, where it is a file
abbrev pub IsOpenTarget : Target → Type 0
IsOpenTarget target.Nothing = ⊤
IsOpenTarget (target.Regular old) = IsFile (file_type old) × (bit_and (metadata_mode old) 0o222 ≢ 0)
IsOpenTarget target.Other = ⊤

-- nothing is told, or the first name beside some path
abbrev pub TellsSomeFirst : Option (List ℕ) → Type 0
TellsSomeFirst told = (path : List ℕ) × TellsFirst path told

-- contents that were read from a file were not written to another for one of these
abbrev pub IsUnsaved : Bor (List ℕ) → Bor (List ℕ) → Fault → Type 0
IsUnsaved source path fault = (fault ≡ CannotRead source) ⊎ ((fault ≡ CannotWrite path) ⊎ (fault ≡ NoMemory))

-- a new file has no place at a path: something stands there, or nothing can be written there
abbrev pub IsNoPlace : Bor (List ℕ) → Fault → Type 0
IsNoPlace path fault = (fault ≡ IsThere path) ⊎ (fault ≡ CannotWrite path)

-- a new file was not made, of contents that were read from another, for one of these
abbrev pub IsUnmade : Bor (List ℕ) → Bor (List ℕ) → Fault → Type 0
IsUnmade source path fault = (fault ≡ IsThere path) ⊎ IsUnsaved source path fault
