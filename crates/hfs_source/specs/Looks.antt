-- Looks at a file, while it is read.
use Rattle.std.specs.Prelude.{◌≡◌, Option, None, Some}
use Rattle.hfs_source.specs.declared.stamp.Stamp.{Stamp}
use Rattle.hfs_source.specs.declared.looks.LastLook.{LastLook}

-- the last look was at the file as it is here, and found this
abbrev pub HasTold : {R : Type 0} → Option (LastLook R) → R → Stamp → Type 0
HasTold None file stamp = ⊥
HasTold (Some last) file stamp = (last.at.value ≡ file) × (last.stamp ≡ stamp)
