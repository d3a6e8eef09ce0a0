-- Files that are lent, such as those from pipes.
use Rattle.std.specs.Prelude.{◌≡◌, ℕ, Option, None, Some, IfSome, IsSomeAnd}
use Rattle.hfs_commands.specs.declared.opened_file.StoredFile.{StoredFile}
use Rattle.hfs_commands.specs.OpenedFiles.{stored_bytes, stored_failures}

-- all bytes of the one are held where those of the other are, and are the same
abbrev pub IsSameAs : {F : Type 0} → StoredFile F → StoredFile F → Type 0
IsSameAs file other = stored_bytes other ≡ stored_bytes file

-- its bytes aren't held
abbrev pub IsNotHeld : {F : Type 0} → StoredFile F → Type 0
IsNotHeld file = stored_bytes file ≡ None

-- where a file is held, this one has its bytes
abbrev pub IsLentOf : {F : Type 0} → Option (StoredFile F) → StoredFile F → Type 0
IsLentOf held file = IfSome held (λ kept. IfSome (stored_bytes kept) (λ bytes. stored_bytes file ≡ Some bytes))

-- where all bytes of this file are there, they are held
abbrev pub IsHeldIn : {F : Type 0} → Option (StoredFile F) → StoredFile F → Type 0
IsHeldIn held file = IfSome (stored_bytes file) (λ bytes. IsSomeAnd held (λ kept. stored_bytes kept ≡ Some bytes))

-- where a read of an opening may fail: of a file that is held as a whole only past its end, of any other anywhere
abbrev pub held_failures : {F : Type 0} → Option (StoredFile F) → ℕ → ℕ → Type 0
held_failures held place count = IfSome held (λ kept. stored_failures kept place count)
