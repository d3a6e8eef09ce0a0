-- What is printed of a disk that was taken apart, or was not.
use Rattle.std.specs.Borrow.{Bor}
use Rattle.std.specs.Prelude.{◌≡◌, ◌⊎◌, ⊤, ℕ, List, ◌++◌, codes, string_bytes}
use Rattle.std.specs.Fmt.{decimal}
use Rattle.hfs_bag.specs.declared.fault.BagFault.{BagFault}
use Rattle.hfs_bag.specs.declared.fault.BagFault.TheVariants as bag
use Rattle.hfs_bag.specs.declared.source.SourceFault.{SourceFault}
use Rattle.hfs_bag.specs.declared.source.SourceFault.TheVariants as source
use Rattle.hfs_bag.specs.Bags.{bytes_in, payload}
use Rattle.hfs_bag.specs.Faults.{AreTooMany, IsBagFault}
use Rattle.hfs_bag.specs.declared.sums.BagSums.{BagSums}
use Rattle.hfs_commands.specs.declared.fault.Fault.{Fault}
use Rattle.hfs_commands.specs.declared.fault.Fault.TheVariants.{CannotRead, NoMemory, Refused}
use Rattle.hfs_commands.specs.declared.fault.Status.{Status}
use Rattle.hfs_commands.specs.declared.fault.Status.TheVariants.{DeviceFailed}
use Rattle.hfs_check.specs.declared.mount_fault.MountFault.{MountFault}
use Rattle.hfs_check.specs.declared.mount_fault.MountFault.TheVariants as mount
use Rattle.hfs_commands.specs.Faults.{IsUnopened, fault_text, status_of}
use Rattle.hfs_commands.specs.Paths.{path_text}
use Rattle.hfs_image.specs.declared.opening.NeededFault.{NeededFault}
use Rattle.hfs_image.specs.declared.opening.NeededFault.TheVariants as needed
use Rattle.hfs_image.specs.Failing.{SomeReadFails}
use Rattle.hfs_image.specs.Seen.{IsRefusedBy}
use Rattle.hfs_word_take.specs.Items.{bag_items, entries_in}
use Rattle.hfs_source.specs.Images.{OfEach}
use Rattle.hfs_bag.specs.declared.shelf_fault.ShelfFault.{ShelfFault}
use Rattle.hfs_bag.specs.declared.shelf_fault.ShelfFault.TheVariants as shelf
use Rattle.hfs_bag.specs.ShelfPaths.{IsNewFolder}
use Rattle.hfs_bag.specs.Told.{IsFolderOrIn, TellsWithin}
use Rattle.hfs_texts.specs.Lines.{line}
use Rattle.hfs_word_take.specs.declared.fault.TakeFault.{TakeFault}
use Rattle.hfs_word_take.specs.declared.fault.TakeFault.TheVariants as take
use Rattle.hfs_word_take.specs.declared.words.TakeWords.{TakeWords}

-- why it was not
unfoldable pub take_fault_text : TakeFault → List ℕ
take_fault_text (take.Image fault) = fault_text fault
take_fault_text (take.IsThere path) = path_text path.now ++ codes " is there already"
take_fault_text (take.CannotWrite path) = codes "cannot write " ++ path_text (string_bytes path)

-- how the program ends then
abbrev pub take_status : TakeFault → Status
take_status (take.Image fault) = status_of fault
take_status (take.IsThere path) = DeviceFailed
take_status (take.CannotWrite path) = DeviceFailed

-- ---- the opening

-- what is told of the file at this path, where an image in it was not opened
abbrev pub needed_fault : Bor (List ℕ) → NeededFault → Fault
needed_fault path needed.ReadFailed = CannotRead path
needed_fault path needed.Memory = NoMemory
needed_fault path (needed.Refused why) = Refused why

-- an image in the file at this path was not opened, and the fault is what is told of that: each image that holds is refused for this first fault of it, or
-- a read failed of bytes that each image has which held before, or memory was refused
pub record IsUntaken (path : Bor (List ℕ)) (Held : List ℕ → Type 0) (Fails : ℕ → ℕ → Type 0) (Holds : List ℕ → Type 0) (fault : Fault) : Type 0 where
  pub why : NeededFault
  pub told : fault ≡ needed_fault path why
  pub refused : OfEach Holds (IsRefusedBy why)
  pub failed : why ≡ needed.ReadFailed → SomeReadFails Held Fails

-- what is to be taken apart was not opened, or it is refused
abbrev pub IsImageFault : TakeWords → Fault → Type 0
IsImageFault words why = IsUnopened words.image words.volume why ⊎ ((refusal : MountFault) × (why ≡ Refused refusal))

-- ---- what is written

-- this is the path of a folder, or of one of the hundred in which it may be written, or of what lies in that one
abbrev pub IsUnwritten : List ℕ → List ℕ → Type 0
IsUnwritten folder path = (path ≡ folder) ⊎ ((new : List ℕ) × IsNewFolder folder new × IsFolderOrIn new path)

-- a fault names the image or the folder that these words name, or a path below what is to be that folder
abbrev pub IsTakeFault : TakeWords → TakeFault → Type 0
IsTakeFault words (take.Image why) = IsImageFault words why
IsTakeFault words (take.IsThere path) = path ≡ words.folder
IsTakeFault words (take.CannotWrite path) = IsUnwritten words.folder.now (string_bytes path)

-- what a fault of a shelf means
abbrev pub fault_of_shelf : ShelfFault → TakeFault
fault_of_shelf (shelf.CannotWrite path) = take.CannotWrite path
fault_of_shelf shelf.NoMemory = take.Image NoMemory

-- what a fault of the image at this path means, where it is the source of a bag
abbrev pub fault_of_source : Bor (List ℕ) → SourceFault → TakeFault
fault_of_source image source.ReadFailed = take.Image (CannotRead image)
fault_of_source image source.Memory = take.Image NoMemory

-- what it means that its bag was not filled
abbrev pub fault_of_bag : Bor (List ℕ) → BagFault → TakeFault
fault_of_bag image (bag.Source fault) = fault_of_source image fault
fault_of_bag image (bag.Shelf fault) = fault_of_shelf fault
fault_of_bag image bag.TooLarge = take.Image (Refused mount.TooLarge)

-- a fault of a shelf, want of memory, or a read that failed; or the payload of each of these images is too large
abbrev pub IsFillFault : (ShelfFault → Type 0) → (List ℕ → Type 0) → BagFault → Type 0
IsFillFault ShelfGave Holds =
    IsBagFault (λ _. ⊤) ShelfGave (OfEach Holds (λ image. AreTooMany (bytes_in (payload (bag_items (entries_in image))))))

-- one of these, where such a folder is filled with the bag of each of these images
abbrev pub IsUngiven : (List ℕ → Type 0) → List ℕ → BagFault → Type 0
IsUngiven Holds folder = IsFillFault (TellsWithin folder) Holds

-- the lines of a bag that was made
unfoldable pub taken_text : BagSums → List ℕ
taken_text sums = codes "taken\n" ++ line (codes "files") (decimal sums.files) ++ line (codes "folders") (decimal sums.folders) ++ line (codes "bytes") (decimal sums.bytes)
