-- A new volume's catalog is doubled until its nodes suffice for what comes.
use Rattle.std.specs.Prelude.{◌⊎◌, ℕ, ◌<◌, List}
use Rattle.std.specs.Borrow.{Bor}
use Rattle.hfs_format.specs.declared.planned_image.PlannedImage.{PlannedImage}
use Rattle.hfs_format.specs.Image.{image_bytes}
use Rattle.hfs_format.specs.declared.make_fault.MakeFault.{MakeFault}
use Rattle.hfs_format.specs.declared.new_volume.NewVolume.{NewVolume}
use Rattle.hfs_put_sources.specs.Items.{PlannedItem}
use Rattle.hfs_word_make.specs.declared.order.MakeOrder.{MakeOrder}
use Rattle.hfs_word_make.specs.Filled.{IsFullIn, IsPutIn, IsUnfilled}
use Rattle.hfs_word_make.specs.Planned.{IsDoubled, IsNotDoubled}
use Rattle.hfs_word_make.specs.Unplanned.{IsUnplanned}
use Rattle.hfs_word_put.specs.declared.fault.PutFault.{PutFault}
use Rattle.hfs_word_put.specs.declared.putting.PutList.{PutList}

-- ---- so often

-- the nodes of the catalog don't suffice with so many doublings
pub record IsFullAt (wanted : NewVolume) (order : MakeOrder) (items : List PlannedItem) (doubled : ℕ) : Type 0 where
  pub planned : PlannedImage
  pub image : IsDoubled wanted doubled planned
  pub full : IsFullIn order items (image_bytes planned)

-- they do: this list was put on this volume
pub record IsPutAt (wanted : NewVolume) (order : MakeOrder) (items : List PlannedItem) (doubled : ℕ) (planned : PlannedImage) (put : PutList) : Type 0 where
  pub image : IsDoubled wanted doubled planned
  pub done : IsPutIn order items (image_bytes planned) put

-- the list was not put on the volume that was planned, which is told
pub record IsUnputAt (path : Bor (List ℕ)) (wanted : NewVolume) (order : MakeOrder) (items : List PlannedItem) (doubled : ℕ) (told : PutFault) : Type 0 where
  pub planned : PlannedImage
  pub image : IsDoubled wanted doubled planned
  pub unput : IsUnfilled path order items (image_bytes planned) told

-- no volume was planned, which is told
pub record IsUnplannedAt (path : Bor (List ℕ)) (wanted : NewVolume) (order : MakeOrder) (items : List PlannedItem) (doubled : ℕ) (told : PutFault) : Type 0 where
  pub fault : MakeFault
  pub unplanned : IsNotDoubled wanted doubled fault
  pub line : IsUnplanned path wanted order items fault told

abbrev pub IsUnfilledAt : Bor (List ℕ) → NewVolume → MakeOrder → List PlannedItem → ℕ → PutFault → Type 0
IsUnfilledAt path wanted order items doubled told =
    IsUnplannedAt path wanted order items doubled told ⊎ IsUnputAt path wanted order items doubled told

-- ---- the first time that they suffice

-- they don't suffice with fewer doublings
abbrev pub AreFullBelow : NewVolume → MakeOrder → List PlannedItem → ℕ → Type 0
AreFullBelow wanted order items doubled = (fewer : ℕ) → fewer < doubled → IsFullAt wanted order items fewer

-- the list was put on this volume, whose catalog was doubled no more than needed
pub record IsFilled (wanted : NewVolume) (order : MakeOrder) (items : List PlannedItem) (planned : PlannedImage) (put : PutList) : Type 0 where
  pub doubled : ℕ
  pub full : AreFullBelow wanted order items doubled
  pub filled : IsPutAt wanted order items doubled planned put

-- the list was put on no volume: with so many doublings it was not, and that is told
pub record IsNotFilled (path : Bor (List ℕ)) (wanted : NewVolume) (order : MakeOrder) (items : List PlannedItem) (told : PutFault) : Type 0 where
  pub doubled : ℕ
  pub full : AreFullBelow wanted order items doubled
  pub unfilled : IsUnfilledAt path wanted order items doubled told
