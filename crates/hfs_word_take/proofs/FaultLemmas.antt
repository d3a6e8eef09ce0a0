-- Faults of what is taken apart name what its words name.
use Rattle.std.proofs.Common.{◌≡◌, ℕ, List, Option, refl, sym, subst, inl, inr}
use Rattle.std.specs.Borrow.{Bor}
use Rattle.std.specs.Prelude.{⊤, string_bytes}
use Rattle.hfs_bag.specs.declared.fault.BagFault.{BagFault}
use Rattle.hfs_bag.specs.declared.fault.BagFault.TheVariants as bag
use Rattle.hfs_bag.specs.declared.source.SourceFault.TheVariants as source
use Rattle.hfs_check.specs.declared.mount_fault.MountFault.TheVariants as mount
use Rattle.hfs_commands.specs.declared.fault.Fault.{Fault}
use Rattle.hfs_commands.specs.declared.fault.Fault.TheVariants.{CannotRead, NoMemory}
use Rattle.hfs_commands.specs.declared.opened_file.OpenedFile.{OpenedFile}
use Rattle.hfs_commands.specs.declared.unopened.LeftFile.TheVariants.{Part}
use Rattle.hfs_commands.specs.Faults.{IsUnopened, KeepsRefusal}
use Rattle.hfs_commands.specs.SeenFiles.{AreSeenOf, PartBlocks, parts_of}
use Rattle.hfs_commands.specs.Unopened.{IsReadFault, IsRefusedOf, TellsWhy}
use Rattle.hfs_source.specs.declared.asking.Counted.{Counted}
use Rattle.hfs_image.specs.Seen.{IsRefusedBy}
use Rattle.hfs_source.specs.Images.{OfEach}
use Rattle.hfs_image.specs.declared.opening.NeededFault.{NeededFault}
use Rattle.hfs_image.specs.declared.opening.NeededFault.TheVariants as needed
use Rattle.hfs_bag.specs.declared.shelf_fault.ShelfFault.{ShelfFault}
use Rattle.hfs_bag.specs.declared.shelf_fault.ShelfFault.TheVariants as shelf
use Rattle.hfs_bag.specs.ShelfPaths.{IsNewFolder}
use Rattle.hfs_bag.specs.Told.{Tells, TellsNewFolder, TellsWithin}
use Rattle.hfs_word_take.specs.declared.fault.TakeFault.{TakeFault}
use Rattle.hfs_word_take.specs.declared.words.TakeWords.{TakeWords}
use Rattle.hfs_word_take.specs.TakeFaults.{IsImageFault, IsTakeFault, IsUntaken, IsUnwritten, fault_of_bag, fault_of_shelf, needed_fault}

unread : (words : TakeWords) (found : Fault) → found ≡ CannotRead words.image → IsImageFault words found
unread words found is = inl (inl is)

unstored : (words : TakeWords) (found : Fault) → found ≡ NoMemory → IsImageFault words found
unstored words found is = inl (inr (inl (inr is)))

-- what is told of an image that was not opened
pub told_needed : (path : Bor (List ℕ)) (why : NeededFault) (found : Fault) → (why ≡ needed.ReadFailed → found ≡ CannotRead path) → (why ≡ needed.Memory → found ≡ NoMemory)
    → KeepsRefusal why found → found ≡ needed_fault path why
told_needed path needed.ReadFailed found read memory refused = read refl
told_needed path needed.Memory found read memory refused = memory refl
told_needed path (needed.Refused why) found read memory refused = refused why refl

pub of_needed : (words : TakeWords) (why : NeededFault) (found : Fault) → found ≡ needed_fault words.image why → IsImageFault words found
of_needed words needed.ReadFailed found told = unread words found told
of_needed words needed.Memory found told = unstored words found told
of_needed words (needed.Refused why) found told = inr (why, told)

-- what is told of blocks that were opened and aren't taken
pub untaken_part : {F : Type 0} (path : Bor (List ℕ)) (Tells : OpenedFile F → Fault → Type 0) (counted : Counted) (volume : Option ℕ) (Held : List ℕ → Type 0)
    (Fails : ℕ → ℕ → Type 0) (part : PartBlocks F) (found : Fault) → IsUntaken path Held Fails (parts_of part.blocks) found → AreSeenOf counted volume part.blocks
    → TellsWhy path Tells (IsRefusedOf counted volume) (record { fault = found; left = Part part })
untaken_part path Tells counted volume Held Fails part found is seen = by is.why is.told is.refused
  where
    by : (why : NeededFault) → found ≡ needed_fault path why → OfEach (parts_of part.blocks) (IsRefusedBy why)
        → TellsWhy path Tells (IsRefusedOf counted volume) (record { fault = found; left = Part part })
    by needed.ReadFailed told refused = inl (inl told)
    by needed.Memory told refused = inl (inr told)
    by (needed.Refused why) told refused = inr (seen, (why, told, λ image holds. refused image holds why refl))

pub unopened : (path : Bor (List ℕ)) (volume : Option ℕ) (found : Fault) → IsReadFault path found → IsUnopened path volume found
unopened path volume found (inl read) = inl read
unopened path volume found (inr memory) = inr (inl (inr memory))

-- a fault that is known is one of those of these words
known : (words : TakeWords) (found is : TakeFault) → found ≡ is → IsTakeFault words is → IsTakeFault words found
known words found is same holds = subst (IsTakeFault words) (sym same) holds

-- a shelf's fault tells a path of these words' folder, where it tells one
abbrev pub IsUnwrittenFor : List ℕ → ShelfFault → Type 0
IsUnwrittenFor folder (shelf.CannotWrite path) = IsUnwritten folder (string_bytes path)
IsUnwrittenFor folder shelf.NoMemory = ⊤

pub uncreated : (folder : List ℕ) (why : ShelfFault) → TellsNewFolder folder why → IsUnwrittenFor folder why
uncreated folder (shelf.CannotWrite path) (inl new) = inr (string_bytes path, new, inl refl)
uncreated folder (shelf.CannotWrite path) (inr same) = inl same
uncreated folder shelf.NoMemory tells = tt

pub unplaced : (folder : List ℕ) (why : ShelfFault) → Tells folder why → IsUnwrittenFor folder why
unplaced folder (shelf.CannotWrite path) same = inl same
unplaced folder shelf.NoMemory tells = tt

pub unfilled : (folder new : List ℕ) (why : ShelfFault) → IsNewFolder folder new → TellsWithin new why → IsUnwrittenFor folder why
unfilled folder new (shelf.CannotWrite path) is within = inr (new, is, within)
unfilled folder new shelf.NoMemory is within = tt

pub of_shelf : (words : TakeWords) (why : ShelfFault) (found : TakeFault) → found ≡ fault_of_shelf why → IsUnwrittenFor words.folder.now why → IsTakeFault words found
of_shelf words (shelf.CannotWrite path) found same tells = known words found _ same tells
of_shelf words shelf.NoMemory found same tells = known words found _ same (unstored words NoMemory refl)

-- a bag's fault tells what its shelf's does, which writes that folder
pub of_bag : (words : TakeWords) (fault : BagFault) (found : TakeFault) (new : List ℕ) → IsNewFolder words.folder.now new
    → ((why : ShelfFault) → fault ≡ bag.Shelf why → TellsWithin new why) → found ≡ fault_of_bag words.image fault → IsTakeFault words found
of_bag words (bag.Source source.ReadFailed) found new is told same = known words found _ same (unread words _ refl)
of_bag words (bag.Source source.Memory) found new is told same = known words found _ same (unstored words _ refl)
of_bag words (bag.Shelf why) found new is told same = of_shelf words why found same (unfilled words.folder.now new why is (told why refl))
of_bag words bag.TooLarge found new is told same = known words found _ same (inr (mount.TooLarge, refl))
