-- Why the image of a new volume is not mounted. It is sound, so it is never refused.
use Rattle.std.specs.Prelude.{◌≡◌, ◌⊎◌, ℕ, List}
use Rattle.std.specs.Borrow.{Bor}
use Rattle.hfs_commands.specs.declared.fault.Fault.{Fault}
use Rattle.hfs_commands.specs.declared.fault.Fault.TheVariants as why
use Rattle.hfs_word_put.specs.declared.fault.PutFault.{PutFault}
use Rattle.hfs_word_put.specs.declared.fault.PutFault.TheVariants.{Image}

-- the image that is to lie at this path can't be read, or is too much
abbrev pub IsUnmounted : Bor (List ℕ) → Fault → Type 0
IsUnmounted path found = (found ≡ why.CannotRead path) ⊎ (found ≡ why.NoMemory)

-- and that is told
abbrev pub IsImageFault : Bor (List ℕ) → PutFault → Type 0
IsImageFault path told = (found : Fault) × (told ≡ Image found) × IsUnmounted path found
