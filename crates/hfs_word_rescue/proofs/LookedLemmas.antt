-- What a look tells of an image is what its check tells, and what is found of it.
use Rattle.std.proofs.Common.{◌≡◌, ◌∙◌, ℕ, List, Option, None, Some, ap, refl, subst, sym}
use Rattle.hfs_check.specs.declared.mount_fault.MountFault.{MountFault}
use Rattle.hfs_check.specs.declared.reported.Report.{Report}
use Rattle.hfs_check.specs.Report.{report_of}
use Rattle.hfs_commands.specs.Checks.{IsCheckFault, check_lines}
use Rattle.hfs_remains_forks.specs.declared.finds.Finds.{Finds}
use Rattle.hfs_remains_forks.specs.Finds.{IsFoundIn}
use Rattle.hfs_remains_forks.specs.Looks.{IsLookedAt}
use Rattle.hfs_image.specs.Known.{OfKnown}
use Rattle.hfs_source.specs.declared.fetching.SparseFault.{SparseFault}
use Rattle.hfs_source.specs.declared.fetching.SparseFault.TheVariants as sparse
use Rattle.hfs_source.specs.Images.{OfEach}
use Rattle.hfs_source.specs.Seen.{EachKnown}
use Rattle.hfs_word_rescue.specs.declared.image.HoldFault.{HoldFault}
use Rattle.hfs_word_rescue.specs.declared.image.HoldFault.TheVariants as hold
use Rattle.hfs_word_rescue.specs.Faults.{HasNoDirectory, IsUnheld, unread_fault}

module _ (Holds : List ℕ → Type 0) (len : ℕ) (report : Report) (found : Option Finds) (is : IsLookedAt Holds len report found) where
  pub looked_fault : (fault : Option MountFault) → fault ≡ report.fault → EachKnown Holds (λ known. OfKnown known len (IsCheckFault fault))
  looked_fault fault e = λ image h same. e ∙ ap (λ (r : Report). r.fault) (is.reported image h)

  pub looked_lines : (lines : List ℕ) → lines ≡ check_lines report → EachKnown Holds (λ known. OfKnown known len (λ image. lines ≡ check_lines (report_of image)))
  looked_lines lines e = λ image h same. e ∙ ap check_lines (is.reported image h)

  pub looked_finds : (finds : Finds) → found ≡ Some finds → EachKnown Holds (λ known. OfKnown known len (λ image. IsFoundIn image (Some finds)))
  looked_finds finds e = λ image h same. subst (IsFoundIn image) e (is.found_is image h same)

  pub looked_none : (fault : Option MountFault) → found ≡ None → fault ≡ report.fault → OfEach Holds (HasNoDirectory fault)
  looked_none fault e told = λ image h. (
    subst (IsFoundIn image) e (is.found_is image h (is.long image h)),
    looked_fault fault told image h (is.long image h),
  )

-- ---- why nothing is found

module _ (Holds : List ℕ → Type 0) (HasFailed : Type 0) where
  -- blocks that weren't read are told as unread, or as without memory
  pub unlooked : (why : SparseFault) (fault : HoldFault) → fault ≡ unread_fault why → (why ≡ sparse.ReadFailed → HasFailed) → IsUnheld Holds HasFailed fault
  unlooked why fault is failed = subst (IsUnheld Holds HasFailed) (sym is) (by why failed)
    where
      by : (w : SparseFault) → (w ≡ sparse.ReadFailed → HasFailed) → IsUnheld Holds HasFailed (unread_fault w)
      by sparse.ReadFailed f = f refl
      by sparse.Memory f = tt

  -- where no read failed, none is told
  pub unfailed : (fault : HoldFault) → IsUnheld Holds ⊥ fault → IsUnheld Holds HasFailed fault
  unfailed (hold.NoDirectory fault) is = is
  unfailed hold.ReadFailed is = absurd is
  unfailed hold.NoMemory is = is
