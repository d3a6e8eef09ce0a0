-- What is told where no volume is planned: what can't be put at all goes before that.
use Rattle.std.specs.Prelude.{◌≡◌, ◌⊎◌, ℕ, List, None}
use Rattle.std.specs.Borrow.{Bor}
use Rattle.hfs_check.specs.VolumeOf.{volume_of}
use Rattle.hfs_format.specs.declared.planned_image.PlannedImage.{PlannedImage}
use Rattle.hfs_format.specs.Image.{image_bytes}
use Rattle.hfs_format.specs.declared.make_fault.MakeFault.{MakeFault}
use Rattle.hfs_format.specs.declared.new_volume.NewVolume.{NewVolume}
use Rattle.hfs_put_sources.specs.Items.{PlannedItem}
use Rattle.hfs_copy.specs.Working.{IsWorkingCopy}
use Rattle.hfs_word_make.specs.declared.order.MakeOrder.{MakeOrder}
use Rattle.hfs_word_make.specs.Faults.{told_of}
use Rattle.hfs_word_make.specs.Mounted.{IsImageFault}
use Rattle.hfs_word_make.specs.Orders.{put_order}
use Rattle.hfs_word_make.specs.Planned.{IsEmptyImage, IsNotEmptied}
use Rattle.hfs_word_put.specs.declared.fault.PutFault.{PutFault}
use Rattle.hfs_word_put.specs.Placed.{TellsAny, refusal}

-- a copy of a volume of the name that is wanted, in which nothing lies
pub record IsEmptyCopy (wanted : NewVolume) (copy : List ℕ) : Type 0 where
  pub planned : PlannedImage
  pub empty : IsEmptyImage wanted planned
  pub copied : IsWorkingCopy copy (image_bytes planned)

-- all that comes has its place on such a volume
pub record HasPlaces (wanted : NewVolume) (order : MakeOrder) (items : List PlannedItem) : Type 0 where
  pub copy : List ℕ
  pub empty : IsEmptyCopy wanted copy
  pub whole : refusal (volume_of copy) (put_order order) items ≡ None

-- something doesn't, and that is told
pub record LacksPlaces (wanted : NewVolume) (order : MakeOrder) (items : List PlannedItem) (told : PutFault) : Type 0 where
  pub copy : List ℕ
  pub empty : IsEmptyCopy wanted copy
  pub lines : TellsAny (refusal (volume_of copy) (put_order order) items) told

-- or there is no such volume, which is told
abbrev pub IsNotEmptiedAs : NewVolume → PutFault → Type 0
IsNotEmptiedAs wanted told = (fault : MakeFault) × (told ≡ told_of fault) × IsNotEmptied wanted fault

-- it isn't known to have its places
abbrev pub IsUnplaced : Bor (List ℕ) → NewVolume → MakeOrder → List PlannedItem → PutFault → Type 0
IsUnplaced path wanted order items told =
    IsNotEmptiedAs wanted told ⊎ (IsImageFault path told ⊎ LacksPlaces wanted order items told)

-- where all has its places, why no volume is planned; else what doesn't
abbrev pub IsUnplanned : Bor (List ℕ) → NewVolume → MakeOrder → List PlannedItem → MakeFault → PutFault → Type 0
IsUnplanned path wanted order items fault told =
    ((told ≡ told_of fault) × HasPlaces wanted order items) ⊎ IsUnplaced path wanted order items told
