-- What is found of all bytes of an image is found of the image.
use Rattle.std.proofs.Common.{◌≡◌, ◌∙◌, ℕ, List, length, Option, None, Some, sym, ap, subst, arith, inl, inr}
use Rattle.std.specs.Prelude.{◌⊎◌, IfErr, IfOk, IfSome, Result, Ok, Err}
use Rattle.std.proofs.lemmas.List.{take_all}
use Rattle.hfs_check.specs.declared.mount_fault.MountFault.{MountFault}
use Rattle.hfs_check.specs.declared.reported.Report.{Report}
use Rattle.hfs_check.specs.Faults.{fault_of}
use Rattle.hfs_check.specs.Report.{refused_report, report_of, report_with}
use Rattle.hfs_image.specs.Seen.{HasNoFault, IsOpenedBy}
use Rattle.hfs_image.specs.declared.opening.NeededVolume.{NeededVolume}
use Rattle.hfs_image.specs.Failing.{SomeFailsWithin, SomeReadFails}
use Rattle.hfs_image.proofs.Failing.{fails_before, within_fails}
use Rattle.hfs_source.specs.Images.{FailsWhere, HasAt, HasLength, OfEach}
use Rattle.hfs_remains_forks.specs.declared.finds.Finds.{Finds}
use Rattle.hfs_remains_forks.specs.Finds.{IsFoundIn}
use Rattle.hfs_remains_forks.specs.Looks.{AreFindsOfEach, IsLookedAt, IsRefusedAs}
use Rattle.hfs_remains_forks.specs.Volumes.{AreFindsOfOpened}

pub all_found : (Holds : List ℕ → Type 0) (all now : List ℕ) (len : ℕ) (found : Option Finds) → length all ≡ len → OfEach Holds (HasAt 0 all) → now ≡ all
    → IsFoundIn now found → AreFindsOfEach Holds len found
all_found Holds all now len found long read same is = λ image h whole.
    let own : all ≡ image = read image h ∙ take_all (length all) image (omega (arith, long, whole)) in
    subst (λ (bytes : List ℕ). IsFoundIn bytes found) (same ∙ own) is

-- what is found, where something is
pub some_found : (Holds : List ℕ → Type 0) (len : ℕ) (found : Option Finds) → AreFindsOfEach Holds len found → IfSome found (λ finds. AreFindsOfEach Holds len (Some finds))
some_found Holds len None is = tt
some_found Holds len (Some finds) is = is

-- ---- a look that finds

pub refused-report : (image : List ℕ) (why : MountFault) → fault_of image ≡ Some why → report_of image ≡ refused_report why
unfolding report_of
refused-report image why e = ap (report_with image) e

-- a refused image has the report of its fault
pub refused_looked : (Holds : List ℕ → Type 0) (len : ℕ) (why : MountFault) (report : Report) (found : Option Finds) → IsRefusedAs Holds len why found
    → report ≡ refused_report why → IsLookedAt Holds len report found
refused_looked Holds len why report found is e = record {
  long = is.long;
  reported = λ image h. e ∙ sym (refused-report image why (is.refused image h));
  found_is = is.found_is;
}

-- what holds of the images that held before holds of those that hold now
pub looked_again : (Old Holds : List ℕ → Type 0) (len : ℕ) (report : Report) (found : Option Finds) → OfEach Holds Old → OfEach Old (HasLength len)
    → OfEach Old (λ image. report ≡ report_of image) → AreFindsOfEach Holds len found → IsLookedAt Holds len report found
looked_again Old Holds len report found narrows long reported is = record {
  long = λ image h. long image (narrows image h);
  reported = λ image h. reported image (narrows image h);
  found_is = is;
}

-- what was found of an opened volume is found of each image
pub looked_opened : (Holds : List ℕ → Type 0) (len : ℕ) (report : Report) (volume : NeededVolume) (finds : Finds) → OfEach Holds (HasLength len)
    → OfEach Holds (λ image. report ≡ report_of image) → OfEach Holds HasNoFault → OfEach Holds (IsOpenedBy volume) → AreFindsOfOpened volume finds
    → IsLookedAt Holds len report (Some finds)
looked_opened Holds len report volume finds long reported none opened is = record {
  long = long;
  reported = reported;
  found_is = λ image h same. is image (none image h) (opened image h);
}

-- ---- what holds of fewer images

pub ok_narrows : {A E : Type 0} (r : Result A E) (Middle Last : List ℕ → Type 0) (Holds : A → List ℕ → Type 0) → IfOk r (λ a. OfEach (Holds a) Middle)
    → OfEach Middle Last → IfOk r (λ a. OfEach (Holds a) Last)
ok_narrows (Ok a) Middle Last Holds h on = λ image x. on image (h image x)
ok_narrows (Err e) Middle Last Holds h on = tt

pub err_narrows : {A E : Type 0} (r : Result A E) (Middle Last : List ℕ → Type 0) (Holds : E → List ℕ → Type 0) → IfErr r (λ e. OfEach (Holds e) Middle)
    → OfEach Middle Last → IfErr r (λ e. OfEach (Holds e) Last)
err_narrows (Ok a) Middle Last Holds h on = tt
err_narrows (Err e) Middle Last Holds h on = λ image x. on image (h image x)

-- ---- reads that failed

-- a read failed at first, or later, of as many bytes
pub either_failed : (First : Type 0) (Holds : List ℕ → Type 0) (New Old : ℕ → ℕ → Type 0) (len : ℕ) → OfEach Holds (HasLength len)
    → FailsWhere New Old → (First → SomeReadFails Holds Old) → First ⊎ SomeFailsWithin len New → SomeReadFails Holds Old
either_failed First Holds New Old len long later first (inl told) = first told
either_failed First Holds New Old len long later first (inr within) = within_fails Holds Old len long (fails_before New Old len later within)

-- a fault that tells of a read that failed later tells of one that might fail before
pub err_failed : {A E : Type 0} (r : Result A E) (Told : E → Type 0) (Holds : List ℕ → Type 0) (New Old : ℕ → ℕ → Type 0) (len : ℕ)
    → OfEach Holds (HasLength len) → FailsWhere New Old → IfErr r (λ e. Told e → SomeFailsWithin len New)
    → IfErr r (λ e. Told e → SomeReadFails Holds Old)
err_failed (Ok a) Told Holds New Old len long later h = tt
err_failed (Err e) Told Holds New Old len long later h = λ told. within_fails Holds Old len long (fails_before New Old len later (h told))
