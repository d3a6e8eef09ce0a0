-- Images of which only the needed blocks were read, known by what was read of them.
use Rattle.std.specs.Prelude.{◌≡◌, ℕ, ◌/◌, List, length, None, Some}
use Rattle.hfs_check.specs.declared.mount_fault.MountFault.{MountFault}
use Rattle.hfs_check.specs.Faults.{fault_of}
use Rattle.hfs_source.specs.Images.{HasLength, OfEach}
use Rattle.hfs_source.specs.Seen.{IsSeen}
use Rattle.hfs_image.specs.declared.opening.NeededFault.{NeededFault}
use Rattle.hfs_image.specs.declared.opening.NeededFault.TheVariants.{Refused}
use Rattle.hfs_image.specs.declared.opening.NeededVolume.{NeededVolume}
use Rattle.hfs_image.specs.Opened.{IsOpenedOf}

-- the volume was opened, what was read is of each of these images, and they have so many bytes
pub record IsSeenAs (Holds : List ℕ → Type 0) (len : ℕ) (volume : NeededVolume) : Type 0 where
  pub opened : IsOpenedOf None (len / 512) volume
  pub seen : IsSeen Holds volume.read
  pub long : OfEach Holds (HasLength len)

-- the volume is opened, with what it has of an image
abbrev pub IsOpenedBy : NeededVolume → List ℕ → Type 0
IsOpenedBy volume image = IsOpenedOf (Some image) (length image / 512) volume

-- an image without a fault
abbrev pub HasNoFault : List ℕ → Type 0
HasNoFault image = fault_of image ≡ None

-- where an image is refused, it is for its first fault
abbrev pub IsRefusedBy : NeededFault → List ℕ → Type 0
IsRefusedBy fault image = (why : MountFault) → fault ≡ Refused why → fault_of image ≡ Some why
