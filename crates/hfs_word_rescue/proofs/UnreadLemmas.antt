-- A fault of what is not read names what the words name.
use Rattle.std.proofs.Common.{◌≡◌, ◌⊎◌, List, ℕ, None, Option, Some, inl, inr}
use Rattle.std.specs.Borrow.{Bor}
use Rattle.hfs_check.specs.declared.mount_fault.MountFault.{MountFault}
use Rattle.hfs_commands.specs.declared.fault.Fault.{Fault}
use Rattle.hfs_commands.specs.declared.fault.Fault.TheVariants.{Refused}
use Rattle.hfs_commands.specs.declared.opened_file.OpenedFile.{OpenedFile}
use Rattle.hfs_commands.specs.declared.unopened.LeftFile.TheVariants.{Part}
use Rattle.hfs_commands.specs.Faults.{IsUnopened}
use Rattle.hfs_commands.specs.SeenFiles.{AreSeenOf, PartBlocks, parts_of}
use Rattle.hfs_commands.specs.Unopened.{TellsWhy}
use Rattle.hfs_source.specs.declared.asking.Counted.{Counted}
use Rattle.hfs_word_take.specs.TakeFaults.{IsImageFault}
use Rattle.hfs_word_rescue.specs.declared.image.HoldFault.{HoldFault}
use Rattle.hfs_word_rescue.specs.declared.image.HoldFault.TheVariants as hold
use Rattle.hfs_word_rescue.specs.declared.words.BagWords.{BagWords}
use Rattle.hfs_word_rescue.specs.Faults.{IsUnfound, IsUnfoundOf, IsUnheld, IsUnread, told_fault}
use Rattle.hfs_word_rescue.specs.Words.{as_take_words}

-- what is told of an image of which nothing is found names its path, is a refusal, or is want of memory
told-names : (path : Bor (List ℕ)) (volume : Option ℕ) (why : Fault) (fault : HoldFault) → why ≡ told_fault path fault
    → IsUnopened path volume why ⊎ ((refusal : MountFault) × (why ≡ Refused refusal))
told-names path volume why (hold.NoDirectory None) is = inl (inl is)
told-names path volume why (hold.NoDirectory (Some refusal)) is = inr (refusal, is)
told-names path volume why hold.ReadFailed is = inl (inl is)
told-names path volume why hold.NoMemory is = inl (inr (inl (inr is)))

-- and is told of the part that was opened
pub unfound_part : {F : Type 0} (path : Bor (List ℕ)) (Tells : OpenedFile F → Fault → Type 0) (counted : Counted) (volume : Option ℕ) (HasFailed : Type 0)
    (part : PartBlocks F) (why : Fault) → IsUnfound path (parts_of part.blocks) HasFailed why → AreSeenOf counted volume part.blocks
    → TellsWhy path Tells (IsUnfoundOf counted volume) (record { fault = why; left = Part part })
unfound_part path Tells counted volume HasFailed part why is seen = by is.0 is.1 is.2
  where
    by : (fault : HoldFault) → IsUnheld (parts_of part.blocks) HasFailed fault → why ≡ told_fault path fault
        → TellsWhy path Tells (IsUnfoundOf counted volume) (record { fault = why; left = Part part })
    by (hold.NoDirectory None) unheld told = inl (inl told)
    by (hold.NoDirectory (Some refusal)) unheld told = inr (seen, (refusal, told, unheld))
    by hold.ReadFailed unheld told = inl (inl told)
    by hold.NoMemory unheld told = inl (inr told)

pub image_fault : {F : Type 0} (words : BagWords) (why : Fault) → IsUnread F words.words why → IsImageFault (as_take_words words) why
image_fault words why (inl unopened) = inl unopened
image_fault words why (inr unloaded) = told-names words.words.image words.words.volume why unloaded.told.0 unloaded.told.2
