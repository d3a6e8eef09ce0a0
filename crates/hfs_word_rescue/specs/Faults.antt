-- Why nothing was taken off an image.
use Rattle.std.specs.Borrow.{Bor}
use Rattle.std.specs.Prelude.{◌≡◌, ◌⊎◌, ⊤, ℕ, List, Option, None, Some}
use Rattle.hfs_check.specs.declared.mount_fault.MountFault.{MountFault}
use Rattle.hfs_check.specs.Report.{report_of}
use Rattle.hfs_commands.specs.declared.fault.Fault.{Fault}
use Rattle.hfs_commands.specs.declared.fault.Fault.TheVariants.{CannotRead, NoMemory, Refused}
use Rattle.hfs_commands.specs.Faults.{IsUnopened, IsUnprinted}
use Rattle.hfs_commands.specs.OpenedFiles.{failures_of, images_of}
use Rattle.hfs_commands.specs.SeenFiles.{AreSeenOf, PartBlocks, parts_of}
use Rattle.hfs_image.specs.Failing.{SomeReadFails}
use Rattle.hfs_image.specs.Kept.{IsSameRange}
use Rattle.hfs_remains_forks.specs.Finds.{found_directory}
use Rattle.hfs_source.specs.declared.asking.Counted.{Counted}
use Rattle.hfs_source.specs.declared.fetching.SparseFault.{SparseFault}
use Rattle.hfs_source.specs.declared.fetching.SparseFault.TheVariants as sparse
use Rattle.hfs_source.specs.declared.ranges.ByteRange.{ByteRange}
use Rattle.hfs_source.specs.Images.{FailsInRange, OfEach}
use Rattle.hfs_word_take.specs.Opening.{AreBlocksAt, IsLineOf}
use Rattle.hfs_word_rescue.specs.declared.image.HoldFault.{HoldFault}
use Rattle.hfs_word_rescue.specs.declared.image.HoldFault.TheVariants as hold
use Rattle.hfs_word_rescue.specs.declared.words.RescueWords.{RescueWords}

-- ---- why nothing is found of an image

-- what it means for an image that its blocks weren't read
abbrev pub unread_fault : SparseFault → HoldFault
unread_fault sparse.ReadFailed = hold.ReadFailed
unread_fault sparse.Memory = hold.NoMemory

-- there is no directory in an image, and its check finds this fault, or none
abbrev pub HasNoDirectory : Option MountFault → List ℕ → Type 0
HasNoDirectory fault image = (found_directory image ≡ None) × (fault ≡ (report_of image).fault)

-- none of these images has a directory, and its check finds this fault; or a read failed, if one did; or memory was refused
abbrev pub IsUnheld : (List ℕ → Type 0) → Type 0 → HoldFault → Type 0
IsUnheld Holds HasFailed (hold.NoDirectory fault) = OfEach Holds (HasNoDirectory fault)
IsUnheld Holds HasFailed hold.ReadFailed = HasFailed
IsUnheld Holds HasFailed hold.NoMemory = ⊤

-- ---- which fault is reported

-- what it means for the file at this path that nothing is found of an image
abbrev pub told_fault : Bor (List ℕ) → HoldFault → Fault
told_fault path (hold.NoDirectory None) = CannotRead path
told_fault path (hold.NoDirectory (Some why)) = Refused why
told_fault path hold.ReadFailed = CannotRead path
told_fault path hold.NoMemory = NoMemory

-- nothing is found of each of these images, for a reason that holds, and this is said about that
abbrev pub IsUnfound : Bor (List ℕ) → (List ℕ → Type 0) → Type 0 → Fault → Type 0
IsUnfound path Holds HasFailed why = (fault : HoldFault) × IsUnheld Holds HasFailed fault × (why ≡ told_fault path fault)

-- ---- what was opened

-- none of the parts of a file that these blocks may be of has a directory, and the check of each finds this, which is told
abbrev pub IsUnfoundPart : {F : Type 0} → PartBlocks F → Fault → Type 0
IsUnfoundPart part why = (refusal : MountFault) × (why ≡ Refused refusal) × OfEach (parts_of part.blocks) (HasNoDirectory (Some refusal))

-- the same of what was asked for of a file
abbrev pub IsUnfoundOf : {F : Type 0} → Counted → Option ℕ → PartBlocks F → Fault → Type 0
IsUnfoundOf counted volume part why = AreSeenOf counted volume part.blocks × IsUnfoundPart part why

-- a read of these blocks failed, of bytes that each part has
abbrev pub HasFailedIn : {F : Type 0} → PartBlocks F → Type 0
HasFailedIn source =
    SomeReadFails (parts_of source.blocks) (FailsInRange (failures_of source.blocks.bytes.bytes) source.blocks.bytes.start source.blocks.bytes.len)

-- nothing is found of the blocks of what is asked for, as they were opened, and as reading left them; and this is said about that
pub record IsUnloaded (F : Type 0) (words : RescueWords) (why : Fault) : Type 0 where
  pub range : ByteRange
  pub line : Option (List ℕ)
  pub answers : IsLineOf words.volume range line
  pub opened : PartBlocks F
  pub placed : AreBlocksAt range opened
  pub left : PartBlocks F
  pub same : IsSameRange images_of opened.blocks.bytes left.blocks.bytes
  pub told : IsUnfound words.image (parts_of left.blocks) (HasFailedIn opened) why

-- what is asked for was not opened, or nothing is found of it
abbrev pub IsUnread : Type 0 → RescueWords → Fault → Type 0
IsUnread F words why = IsUnopened words.image words.volume why ⊎ IsUnloaded F words why

-- or its list was not printed
abbrev pub IsUnlisted : Type 0 → RescueWords → Fault → Type 0
IsUnlisted F words why = IsUnread F words why ⊎ IsUnprinted why
