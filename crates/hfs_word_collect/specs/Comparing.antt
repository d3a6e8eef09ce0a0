-- Images compared with what a collection has of them.
use Rattle.std.specs.Prelude.{◌≡◌, ◌≢◌, ◌⊎◌, ℕ, List, [], ◌∷◌, length, Option, Some, None}
use Rattle.hex.specs.Hex.{encode_lower}
use Rattle.sha2.specs.Sha256.{sha256}
use Rattle.hfs_database.specs.declared.comparing.Comparison.{Comparison}
use Rattle.sqlite.specs.Held.{Held, state}
use Rattle.sqlite.specs.State.{State}
use Rattle.sqlite.specs.Store.{Ghosts}
use Rattle.sqlite.specs.declared.types.Value.TheVariants.{Text}
use Rattle.hfs_database.specs.Asking.{IsKnown, known_image_text}
use Rattle.hfs_database.specs.Faults.{FailsToTell, IsUnreadImage}
use Rattle.hfs_database.specs.declared.fault.DatabaseFault.{DatabaseFault}
use Rattle.hfs_database.specs.declared.comparing.Comparison.TheVariants.{Missing, New}
use Rattle.hfs_database.specs.declared.comparing.KnownImage.{KnownImage}
use Rattle.hfs_database.specs.Comparing.{comparison}
use Rattle.hfs_bag.specs.Failing.{SomeFail}
use Rattle.hfs_word_collect.specs.Answers.{database_fault}
use Rattle.hfs_word_collect.specs.declared.collect_fault.RunFault.{RunFault}
use Rattle.hfs_word_collect.specs.declared.collect_fault.RunFault.TheVariants as run

-- a file with these bytes is described by its length and its digest, unless it could not be read
abbrev pub IsCompared : KnownImage → Comparison → List ℕ → Type 0
IsCompared known found file = found ≢ Missing → found ≡ comparison known (length file) (encode_lower (sha256 file))

-- it is described by some length and some digest, unless the file could not be read
abbrev pub IsComparison : KnownImage → Comparison → Type 0
IsComparison known found = found ≢ Missing → ∥ ((len : ℕ) × (digits : List ℕ) × (found ≡ comparison known len digits)) ∥₁

-- what the database has of the image decides which words are printed of a file
abbrev pub IsComparisonTo : Option KnownImage → Comparison → Type 0
IsComparisonTo (Some known) found = IsComparison known found
IsComparisonTo None found = found ≡ New

-- the database was asked for the image of this path, and nothing else; what it has of it decides which words are printed, or the file could not be read
abbrev pub IsAsked : State → State → List ℕ → Comparison → Type 0
IsAsked old new path found = ∥ ((known : Option KnownImage) × IsKnown old new path known × IsComparisonTo known found) ∥₁

-- it was asked so, or was asked nothing, since the file could not be read
abbrev pub IsAskedOrMissing : {S : Type 0} → Ghosts S → Held S → Held S → List ℕ → Comparison → Type 0
IsAskedOrMissing g old new path found = ((found ≡ Missing) × (new ≡ old)) ⊎ IsAsked (state g old) (state g new) path found

-- a file with these bytes compares so with what the database has of the image
abbrev pub IsComparedTo : Option KnownImage → Comparison → List ℕ → Type 0
IsComparedTo (Some known) found file = IsCompared known found file
IsComparedTo None found file = found ≡ New

-- the database was asked for the image of this path, and a file with these bytes compares so with what it has
abbrev pub IsComparedIn : State → State → List ℕ → Comparison → List ℕ → Type 0
IsComparedIn old new path found file = found ≢ Missing → ∥ ((known : Option KnownImage) × IsKnown old new path known × IsComparedTo known found file) ∥₁

-- the file was read, or some read of its bytes may fail
abbrev pub IsReadUnless : (List ℕ → Type 0) → (ℕ → ℕ → Type 0) → Comparison → Type 0
IsReadUnless Holds Fails found = (found ≢ Missing) ⊎ SomeFail Holds Fails

-- the database was asked for the image of this path, and the fault is that of its error;
-- or it has the image, and memory was refused after that
abbrev pub FailsToCompare : State → State → List ℕ → RunFault → Type 0
FailsToCompare old new path fault =
    ((why : DatabaseFault) × (fault ≡ database_fault why) × FailsToTell IsUnreadImage old new known_image_text (Text path ∷ []) why)
    ⊎ ((fault ≡ run.NoMemory) × ((known : KnownImage) × IsKnown old new path (Some known)))
