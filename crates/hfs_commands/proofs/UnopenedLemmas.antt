-- What is told of a file of which nothing was opened.
use Rattle.std.proofs.Common.{◌≡◌, ◌∷◌, ℕ, List, Option, ap, refl, subst, sym, inl, inr}
use Rattle.std.specs.Borrow.{Bor}
use Rattle.hfs_check.specs.declared.mount_fault.MountFault.TheVariants as mount
use Rattle.hfs_commands.specs.declared.fault.Fault.{Fault}
use Rattle.hfs_commands.specs.declared.fault.Fault.TheVariants.{CannotRead, NoMemory, NotWritten}
use Rattle.hfs_commands.specs.declared.opened_file.OpenedFile.{OpenedFile}
use Rattle.hfs_commands.specs.declared.opened_file.OpenedFile.TheVariants.{Raw}
use Rattle.hfs_commands.specs.declared.opened_file.StoredFile.{StoredFile}
use Rattle.hfs_commands.specs.declared.trusted_input.TrustedInput.{TrustedInput}
use Rattle.hfs_commands.specs.declared.unopened.LeftFile.{LeftFile}
use Rattle.hfs_commands.specs.declared.unopened.LeftFile.TheVariants.{Content, Input, Nothing, Part}
use Rattle.hfs_commands.specs.declared.unopened.UnopenedFile.{UnopenedFile}
use Rattle.hfs_commands.specs.Faults.{IsRefusal, IsUnopened, KeepsRefusal}
use Rattle.hfs_commands.specs.OpenedFiles.{AreRaw, IsLaidOut, images_of, opened_layout, stored_images}
use Rattle.hfs_commands.specs.SeenFiles.{AreSeenOf, PartBlocks, parts_of}
use Rattle.hfs_commands.specs.Unopened.{AreAmong, AreNoPart, HasNoPart, HasRawSectors, IsNoPart, IsReadFault, IsRefusedOf, TellsLeft, TellsPlace, TellsWhy, WasNotRead}
use Rattle.hfs_image.specs.declared.opening.NeededFault.{NeededFault}
use Rattle.hfs_image.specs.declared.opening.NeededFault.TheVariants as needed
use Rattle.hfs_image.specs.Seen.{IsRefusedBy}
use Rattle.hfs_source.specs.Asking.{asked_in}
use Rattle.hfs_source.specs.Images.{OfEach}
use Rattle.hfs_source.specs.Steps.{ReadStep, place_after, went}
use Rattle.hfs_source.specs.declared.asking.Asked.{Asked}
use Rattle.hfs_source.specs.declared.asking.Counted.{Counted}
use Rattle.hfs_source.specs.declared.fetching.SparseFault.{SparseFault}
use Rattle.hfs_source.specs.declared.fetching.SparseFault.TheVariants as sparse
use Rattle.hfs_source.specs.declared.data.UserData.{UserData}
use Rattle.hfs_source.specs.declared.ranges.Layout.{Layout}
use Rattle.hfs_texts.specs.declared.input.LoadFault.{LoadFault}
use Rattle.hfs_texts.specs.declared.input.LoadFault.TheVariants as load

-- ---- an input

-- why an input was not loaded
pub told_load : {F : Type 0} (path : Bor (List ℕ)) (input : TrustedInput F) (steps : List ReadStep) (fault : LoadFault) (found : Fault)
    → (fault ≡ load.ReadFailed → found ≡ CannotRead path) → (fault ≡ load.TooLarge → IsRefusal mount.TooLarge found) → (fault ≡ load.Memory → found ≡ NoMemory)
    → (fault ≡ load.TooLarge → input.log.steps ≡ went 2147483649 ∷ steps)
    → TellsWhy path WasNotRead WasNotRead (record { fault = found; left = Input input })
told_load path input steps load.ReadFailed found read large memory past = inl (inl (read refl))
told_load path input steps load.TooLarge found read large memory past = inr (ap place_after (past refl), large refl)
told_load path input steps load.Memory found read large memory past = inl (inr (memory refl))

-- ---- a file

-- a fault of a file that isn't read is told of what is asked for of it too
told_left : {F : Type 0} (Tells : OpenedFile F → Fault → Type 0) (TellsPart : PartBlocks F → Fault → Type 0) (left : LeftFile F) (why : Fault)
    → TellsLeft WasNotRead WasNotRead left why → TellsLeft Tells TellsPart left why
told_left Tells TellsPart Nothing why told = told
told_left Tells TellsPart (Input input) why told = told
told_left Tells TellsPart (Content file) why told = absurd told
told_left Tells TellsPart (Part part) why told = absurd told

pub told_of_file : {F : Type 0} (path : Bor (List ℕ)) (Tells : OpenedFile F → Fault → Type 0) (TellsPart : PartBlocks F → Fault → Type 0) (unopened : UnopenedFile F)
    → TellsWhy path WasNotRead WasNotRead unopened → TellsWhy path Tells TellsPart unopened
told_of_file path Tells TellsPart unopened (inl read) = inl read
told_of_file path Tells TellsPart unopened (inr told) = inr (told_left Tells TellsPart unopened.left unopened.fault told)

-- and what is told where no part was read holds where one was
part_left : {F : Type 0} (Tells : OpenedFile F → Fault → Type 0) (TellsPart : PartBlocks F → Fault → Type 0) (left : LeftFile F) (why : Fault)
    → TellsLeft Tells WasNotRead left why → TellsLeft Tells TellsPart left why
part_left Tells TellsPart Nothing why told = told
part_left Tells TellsPart (Input input) why told = told
part_left Tells TellsPart (Content file) why told = told
part_left Tells TellsPart (Part part) why told = absurd told

pub told_of_part : {F : Type 0} (path : Bor (List ℕ)) (Tells : OpenedFile F → Fault → Type 0) (TellsPart : PartBlocks F → Fault → Type 0) (unopened : UnopenedFile F)
    → TellsWhy path Tells WasNotRead unopened → TellsWhy path Tells TellsPart unopened
told_of_part path Tells TellsPart unopened (inl read) = inl read
told_of_part path Tells TellsPart unopened (inr told) = inr (part_left Tells TellsPart unopened.left unopened.fault told)

-- a file that isn't read can't be read, or it is too much
unread_left : {F : Type 0} (path : Bor (List ℕ)) (volume : Option ℕ) (left : LeftFile F) (why : Fault) → TellsLeft WasNotRead WasNotRead left why
    → IsUnopened path volume why
unread_left path volume Nothing why told = absurd told
unread_left path volume (Input input) why told = inr (inl (inl told.1))
unread_left path volume (Content file) why told = absurd told
unread_left path volume (Part part) why told = absurd told

pub unopened_file : {F : Type 0} (path : Bor (List ℕ)) (volume : Option ℕ) (unopened : UnopenedFile F) → TellsWhy path WasNotRead WasNotRead unopened
    → IsUnopened path volume unopened.fault
unopened_file path volume unopened (inl (inl read)) = inl read
unopened_file path volume unopened (inl (inr memory)) = inr (inl (inr memory))
unopened_file path volume unopened (inr told) = unread_left path volume unopened.left unopened.fault told

-- ---- a part of it

-- what is told of a read that failed
pub of_sparse : (path : Bor (List ℕ)) (why : SparseFault) (found : Fault) → (why ≡ sparse.ReadFailed → found ≡ CannotRead path) → (why ≡ sparse.Memory → found ≡ NoMemory)
    → IsReadFault path found
of_sparse path sparse.ReadFailed found read memory = inl (read refl)
of_sparse path sparse.Memory found read memory = inr (memory refl)

-- where what is asked for is known of each file, it is told of each
pub no_part : (layout : Layout) (counted : Counted) (volume : Option ℕ) (Holds : List ℕ → Type 0) (asked : Asked) (why : Fault)
    → OfEach Holds (λ file. asked ≡ asked_in layout counted volume file) → IsNoPart asked why → AreNoPart layout counted volume Holds why
no_part layout counted volume Holds asked why is told = λ file holds. subst (λ (a : Asked). IsNoPart a why) (is file holds) told

-- and where the file is handed back, of that
pub no_part_handed : {F : Type 0} (path : Bor (List ℕ)) (counted : Counted) (volume : Option ℕ) (file : OpenedFile F) (why : Fault) (unopened : UnopenedFile F)
    → unopened.fault ≡ why → unopened.left ≡ Content file → IsLaidOut file → TellsPlace path (opened_layout file) counted volume (images_of file) why
    → TellsWhy path (HasNoPart counted volume) WasNotRead unopened
no_part_handed path counted volume file why unopened fault left laid (inl read) = inl (subst (IsReadFault path) (sym fault) read)
no_part_handed path counted volume file why unopened fault left laid (inr none) =
    inr
    (subst (λ l. TellsLeft (HasNoPart counted volume) WasNotRead l unopened.fault) (sym left) (subst (HasNoPart counted volume file) (sym fault) (laid, none)))

-- what is handed back is among what was given
pub handed_among : {F : Type 0} (Holds : List ℕ → Type 0) (file : OpenedFile F) (unopened : UnopenedFile F) → unopened.left ≡ Content file
    → OfEach (images_of file) Holds → AreAmong Holds unopened.left
handed_among Holds file unopened left held = subst (AreAmong Holds) (sym left) held

-- the user data of a file of raw sectors isn't written
pub raw_sectors : {F : Type 0} (path : Bor (List ℕ)) (TellsPart : PartBlocks F → Fault → Type 0) (user : UserData (StoredFile F))
    → AreRaw (stored_images user.bytes) → TellsWhy path HasRawSectors TellsPart (record { fault = NotWritten; left = Content (Raw user) })
raw_sectors path TellsPart user raw = inr (refl, refl, raw)

-- an image that isn't opened by its blocks is refused, or it wasn't read
pub refused_part : {F : Type 0} (path : Bor (List ℕ)) (Tells : OpenedFile F → Fault → Type 0) (part : PartBlocks F) (why : NeededFault) (found : Fault)
    → (why ≡ needed.ReadFailed → found ≡ CannotRead path) → (why ≡ needed.Memory → found ≡ NoMemory) → KeepsRefusal why found
    → OfEach (parts_of part.blocks) (IsRefusedBy why) → (counted : Counted) (volume : Option ℕ) → AreSeenOf counted volume part.blocks
    → TellsWhy path Tells (IsRefusedOf counted volume) (record { fault = found; left = Part part })
refused_part path Tells part needed.ReadFailed found read memory keeps refused counted volume seen = inl (inl (read refl))
refused_part path Tells part needed.Memory found read memory keeps refused counted volume seen = inl (inr (memory refl))
refused_part path Tells part (needed.Refused why) found read memory keeps refused counted volume seen =
    inr (seen, (why, keeps why refl, λ image holds. refused image holds why refl))
