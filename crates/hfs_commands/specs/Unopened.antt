-- What is told of a file of which nothing was opened, by what was read of it.
use Rattle.std.specs.Borrow.{Bor}
use Rattle.std.specs.Prelude.{◌≡◌, ◌⊎◌, ⊤, ℕ, List, Option, Some}
use Rattle.hfs_check.specs.declared.mount_fault.MountFault.{MountFault}
use Rattle.hfs_check.specs.declared.mount_fault.MountFault.TheVariants as mount
use Rattle.hfs_check.specs.Faults.{fault_of}
use Rattle.hfs_commands.specs.declared.fault.Fault.{Fault}
use Rattle.hfs_commands.specs.declared.fault.Fault.TheVariants.{CannotRead, NoMemory, NotWritten, NoVolume, Refused, SeveralVolumes}
use Rattle.hfs_commands.specs.declared.opened_file.OpenedFile.{OpenedFile}
use Rattle.hfs_commands.specs.declared.trusted_input.TrustedInput.{TrustedInput}
use Rattle.hfs_commands.specs.declared.unopened.LeftFile.{LeftFile}
use Rattle.hfs_commands.specs.declared.unopened.LeftFile.TheVariants.{Content, Input, Nothing, Part}
use Rattle.hfs_commands.specs.declared.unopened.UnopenedFile.{UnopenedFile}
use Rattle.hfs_commands.specs.OpenedFiles.{IsLaidOut, images_of, opened_layout}
use Rattle.hfs_commands.specs.SeenFiles.{AreSeenOf, PartBlocks, parts_of}
use Rattle.hfs_source.specs.Asking.{asked_in}
use Rattle.hfs_source.specs.declared.asking.Asked.{Asked}
use Rattle.hfs_source.specs.declared.asking.Asked.TheVariants.{Inside, Missing, Several, WholeFile}
use Rattle.hfs_source.specs.declared.asking.Counted.{Counted}
use Rattle.hfs_source.specs.declared.ranges.Layout.{Layout}
use Rattle.hfs_source.specs.declared.ranges.Layout.TheVariants as layout
use Rattle.hfs_source.specs.Images.{OfEach}
use Rattle.hfs_source.specs.Steps.{place_after}

-- a read of the file at this path failed, or memory was refused
abbrev pub IsReadFault : Bor (List ℕ) → Fault → Type 0
IsReadFault path why = (why ≡ CannotRead path) ⊎ (why ≡ NoMemory)

-- an input gave a byte more than an image may have, and so it is told
abbrev pub IsTooLarge : {F : Type 0} → TrustedInput F → Fault → Type 0
IsTooLarge input why = (place_after input.log.steps ≡ Some 2147483649) × (why ≡ Refused mount.TooLarge)

-- what is asked for is no part of a file, and it is told why: several volumes lie inside, or there is none with the number
abbrev pub IsNoPart : Asked → Fault → Type 0
IsNoPart WholeFile why = ⊥
IsNoPart (Inside place) why = ⊥
IsNoPart (Several count) why = why ≡ SeveralVolumes count
IsNoPart (Missing number) why = why ≡ NoVolume number

-- so it is of each of these files
abbrev pub AreNoPart : Layout → Counted → Option ℕ → (List ℕ → Type 0) → Fault → Type 0
AreNoPart layout counted volume Holds why = OfEach Holds (λ bytes. IsNoPart (asked_in layout counted volume bytes) why)

-- or a read of the file at this path failed, or memory was refused
abbrev pub TellsPlace : Bor (List ℕ) → Layout → Counted → Option ℕ → (List ℕ → Type 0) → Fault → Type 0
TellsPlace path layout counted volume Holds why = IsReadFault path why ⊎ AreNoPart layout counted volume Holds why

-- it is so of the bytes in which volumes were looked for, which are laid out as their file is
abbrev pub HasNoPart : {F : Type 0} → Counted → Option ℕ → OpenedFile F → Fault → Type 0
HasNoPart counted volume file why = IsLaidOut file × AreNoPart (opened_layout file) counted volume (images_of file) why

-- the file is of raw sectors, which are never written, and so it is told
abbrev pub HasRawSectors : {F : Type 0} → OpenedFile F → Fault → Type 0
HasRawSectors file why = (why ≡ NotWritten) × (opened_layout file ≡ layout.Raw) × IsLaidOut file

-- an image is refused for this first fault of it, and so it is told
abbrev pub IsRefusedPart : {F : Type 0} → PartBlocks F → Fault → Type 0
IsRefusedPart part why = (refusal : MountFault) × (why ≡ Refused refusal) × OfEach (parts_of part.blocks) (λ image. fault_of image ≡ Some refusal)

-- the same of what was asked for of a file
abbrev pub IsRefusedOf : {F : Type 0} → Counted → Option ℕ → PartBlocks F → Fault → Type 0
IsRefusedOf counted volume part why = AreSeenOf counted volume part.blocks × IsRefusedPart part why

-- the images of the bytes that are handed back, in which volumes were looked for, are among these
abbrev pub AreAmong : {F : Type 0} → (List ℕ → Type 0) → LeftFile F → Type 0
AreAmong Holds Nothing = ⊤
AreAmong Holds (Input input) = ⊤
AreAmong Holds (Content file) = OfEach (images_of file) Holds
AreAmong Holds (Part part) = ⊤

-- no such bytes were come to
abbrev pub WasNotRead : {A : Type 0} → A → Fault → Type 0
WasNotRead it why = ⊥

-- what was read of a file tells this fault: an input, the bytes in which volumes were looked for, or the part that was asked for
abbrev pub TellsLeft : {F : Type 0} → (OpenedFile F → Fault → Type 0) → (PartBlocks F → Fault → Type 0) → LeftFile F → Fault → Type 0
TellsLeft Tells TellsPart Nothing why = ⊥
TellsLeft Tells TellsPart (Input input) why = IsTooLarge input why
TellsLeft Tells TellsPart (Content file) why = Tells file why
TellsLeft Tells TellsPart (Part part) why = TellsPart part why

-- so it does, or a read of the file at this path failed, or memory was refused
abbrev pub TellsWhy : {F : Type 0} → Bor (List ℕ) → (OpenedFile F → Fault → Type 0) → (PartBlocks F → Fault → Type 0) → UnopenedFile F → Type 0
TellsWhy path Tells TellsPart unopened = IsReadFault path unopened.fault ⊎ TellsLeft Tells TellsPart unopened.left unopened.fault
