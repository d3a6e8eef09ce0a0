-- What a look at an image finds.
use Rattle.std.specs.Prelude.{◌≡◌, ℕ, List, Option, Some}
use Rattle.hfs_check.specs.declared.mount_fault.MountFault.{MountFault}
use Rattle.hfs_check.specs.declared.reported.Report.{Report}
use Rattle.hfs_check.specs.Faults.{fault_of}
use Rattle.hfs_check.specs.Report.{report_of}
use Rattle.hfs_image.specs.Known.{OfKnown}
use Rattle.hfs_source.specs.Images.{HasLength, OfEach}
use Rattle.hfs_source.specs.Seen.{EachKnown}
use Rattle.hfs_remains_forks.specs.declared.finds.Finds.{Finds}
use Rattle.hfs_remains_forks.specs.Finds.{IsFoundIn}

-- this is found of each of these images that has so many bytes
abbrev pub AreFindsOfEach : (List ℕ → Type 0) → ℕ → Option Finds → Type 0
AreFindsOfEach Holds len found = EachKnown Holds (λ known. OfKnown known len (λ image. IsFoundIn image found))

-- an image that is refused for this fault
abbrev pub HasFault : MountFault → List ℕ → Type 0
HasFault why image = fault_of image ≡ Some why

-- each of these images is refused for this fault, has so many bytes, and this is found of it
pub record IsRefusedAs (Holds : List ℕ → Type 0) (len : ℕ) (why : MountFault) (found : Option Finds) : Type 0 where
  pub refused : OfEach Holds (HasFault why)
  pub long : OfEach Holds (HasLength len)
  pub found_is : AreFindsOfEach Holds len found

-- each of these images has so many bytes, this is its report, and this is found of it
pub record IsLookedAt (Holds : List ℕ → Type 0) (len : ℕ) (report : Report) (found : Option Finds) : Type 0 where
  pub long : OfEach Holds (HasLength len)
  pub reported : OfEach Holds (λ image. report ≡ report_of image)
  pub found_is : AreFindsOfEach Holds len found
