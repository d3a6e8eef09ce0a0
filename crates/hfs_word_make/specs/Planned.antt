-- The plan of a new volume for a list of items.
use Rattle.std.specs.Prelude.{◌≡◌, ℕ, ◌^◌, [], None}
use Rattle.hfs_format.specs.declared.planned_image.PlannedImage.{PlannedImage}
use Rattle.hfs_format.specs.declared.make_fault.MakeFault.{MakeFault}
use Rattle.hfs_format.specs.declared.new_volume.NewVolume.{NewVolume}
use Rattle.hfs_format.specs.Plans.{IsMadeFor, IsPlanFault}

-- ---- with the nodes of its catalog doubled

-- the volume that is wanted, whose catalog gets so many times the nodes
pub record IsTimes (wanted : NewVolume) (times : ℕ) (volume : NewVolume) : Type 0 where
  pub name : volume.name ≡ wanted.name
  pub size : volume.size ≡ wanted.size
  pub items : volume.items.now ≡ wanted.items.now
  pub moment : volume.moment ≡ wanted.moment
  pub times_are : volume.catalog_times ≡ times

-- the image of the volume that is wanted, with the nodes of its catalog doubled so often
pub record IsDoubled (wanted : NewVolume) (doubled : ℕ) (planned : PlannedImage) : Type 0 where
  pub volume : NewVolume
  pub times : IsTimes wanted (2 ^ doubled) volume
  pub made : IsMadeFor volume planned

-- none is planned so, and this is why
pub record IsNotDoubled (wanted : NewVolume) (doubled : ℕ) (fault : MakeFault) : Type 0 where
  pub volume : NewVolume
  pub times : IsTimes wanted (2 ^ doubled) volume
  pub why : IsPlanFault volume fault

-- ---- without anything in it

-- the volume of this name and moment in which nothing is to lie
pub record IsEmptied (wanted volume : NewVolume) : Type 0 where
  pub name : volume.name ≡ wanted.name
  pub size : volume.size ≡ None
  pub items : volume.items.now ≡ []
  pub moment : volume.moment ≡ wanted.moment
  pub times_are : volume.catalog_times ≡ 1

-- its image
pub record IsEmptyImage (wanted : NewVolume) (planned : PlannedImage) : Type 0 where
  pub volume : NewVolume
  pub emptied : IsEmptied wanted volume
  pub made : IsMadeFor volume planned

-- none is planned, and this is why
pub record IsNotEmptied (wanted : NewVolume) (fault : MakeFault) : Type 0 where
  pub volume : NewVolume
  pub emptied : IsEmptied wanted volume
  pub why : IsPlanFault volume fault
