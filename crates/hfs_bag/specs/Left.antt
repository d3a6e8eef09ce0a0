-- What a folder that didn't get its place leaves.
use Rattle.std.specs.Prelude.{◌≡◌, ◌⊎◌, ℕ, List}
use Rattle.hfs_bag.specs.SystemSteps.{SystemStep}
use Rattle.hfs_bag.specs.Removals.{HasSince, IsTakenAway, RemovesIn}
use Rattle.hfs_bag.specs.declared.shelf_fault.ShelfFault.{ShelfFault}
use Rattle.hfs_bag.specs.declared.shelf_fault.ShelfFault.TheVariants as fault

-- the folder is taken away, or memory was refused, and what was removed lay in it
abbrev pub IsLeft : ShelfFault → List ℕ → List SystemStep → List SystemStep → Type 0
IsLeft (fault.CannotWrite path) folder old new = IsTakenAway folder old new
IsLeft fault.NoMemory folder old new = HasSince (RemovesIn folder) old new

-- the fault stayed, or memory was refused
abbrev pub IsOrNoMemory : ShelfFault → ShelfFault → Type 0
IsOrNoMemory was is = (is ≡ was) ⊎ (is ≡ fault.NoMemory)
