-- What comes is put on a new volume.
use Rattle.std.specs.Prelude.{◌≡◌, ◌⊎◌, ℕ, Bool, true, false, List}
use Rattle.std.specs.Borrow.{Bor}
use Rattle.hfs_blocks.specs.Blocks.{block_at}
use Rattle.hfs_check.specs.Parts.{mdb_in}
use Rattle.hfs_check.specs.VolumeOf.{volume_of}
use Rattle.hfs_model.specs.Volume.{Volume}
use Rattle.hfs_model.specs.declared.reply.Value.{Value}
use Rattle.hfs_model.specs.declared.reply.Value.TheVariants as value
use Rattle.hfs_put.specs.Laying.{IsFaultOfLaying}
use Rattle.hfs_put.specs.declared.faults.LayFault.{LayFault}
use Rattle.hfs_put.specs.declared.faults.LayFault.TheVariants as lay_fault
use Rattle.hfs_put.specs.PutImages.{HasDirectory, IsPutOver}
use Rattle.hfs_put_sources.specs.Items.{PlannedItem}
use Rattle.hfs_copy.specs.Working.{IsWorkingCopy}
use Rattle.hfs_word_make.specs.declared.order.MakeOrder.{MakeOrder}
use Rattle.hfs_word_make.specs.Mounted.{IsImageFault}
use Rattle.hfs_word_make.specs.Orders.{put_order}
use Rattle.hfs_word_put.specs.declared.fault.PutFault.{PutFault}
use Rattle.hfs_word_put.specs.declared.placing.PlacedList.{PlacedList}
use Rattle.hfs_word_put.specs.declared.putting.PutList.{PutList}
use Rattle.hfs_word_put.specs.Placed.{IsPlaced}
use Rattle.hfs_word_put.specs.Put.{IsPutOn, IsUnputOn}
use Rattle.hfs_word_put.specs.Sums.{put_sums}

-- ---- nodes that don't suffice

abbrev pub is_full_value : Value → Bool
is_full_value (value.Full free depth) = true
is_full_value (value.Room free wanted) = false
is_full_value (value.ExtentNodes free depth) = false
is_full_value value.Nothing = false
is_full_value (value.Id id) = false
is_full_value (value.One info) = false
is_full_value (value.Many infos) = false
is_full_value (value.Bytes bytes) = false
is_full_value (value.Place dir name) = false

-- a call was refused for want of nodes of the catalog
abbrev pub is_full : LayFault → Bool
is_full (lay_fault.Refused place reply) = is_full_value reply.value
is_full (lay_fault.Absent place) = false
is_full lay_fault.NoMemory = false

-- so it is of this list on a volume
pub record IsFullOn (list : PlacedList) (now : ℕ) (v : Volume) : Type 0 where
  pub why : LayFault
  -- which the calls before it leave as that of this image
  pub left : List ℕ
  pub of : IsFaultOfLaying list.target now list.places.items v left why
  pub full : is_full why ≡ true

-- ---- a list on a copy

-- the list was put on the volume of the copy, which is this one then: these blocks go out, and so much was put
pub record IsLaidOn (list : PlacedList) (now : ℕ) (copy current : List ℕ) (put : PutList) : Type 0 where
  pub over : IsPutOver copy current list.target now list.places.items put.blocks.patch put.blocks.runs.items put.blocks.ids.items
  -- what is saved has that volume's master directory block
  pub directory : HasDirectory copy list.places.items put.blocks.patch put.blocks.runs.items (mdb_in (block_at current))
  pub sums_are : put.sums ≡ put_sums list.places.items (mdb_in (block_at current)).free_blocks

-- ---- a list on a new volume

-- it was put on a copy of this image
pub record IsPutIn (order : MakeOrder) (items : List PlannedItem) (image : List ℕ) (put : PutList) : Type 0 where
  pub copy : List ℕ
  pub copied : IsWorkingCopy copy image
  pub current : List ℕ
  pub done : IsPutOn (put_order order) copy current items put.blocks put.sums

-- all of it has its places, but the nodes of the catalog don't suffice
pub record IsFullIn (order : MakeOrder) (items : List PlannedItem) (image : List ℕ) : Type 0 where
  pub copy : List ℕ
  pub copied : IsWorkingCopy copy image
  pub list : PlacedList
  pub placed : IsPlaced (volume_of copy) (put_order order) items list
  pub full : IsFullOn list order.now (volume_of copy)

-- it was not put, and that is told
pub record IsUnputIn (order : MakeOrder) (items : List PlannedItem) (image : List ℕ) (told : PutFault) : Type 0 where
  pub copy : List ℕ
  pub copied : IsWorkingCopy copy image
  pub why : IsUnputOn (put_order order) copy items told

-- or the image was not mounted
abbrev pub IsUnfilled : Bor (List ℕ) → MakeOrder → List PlannedItem → List ℕ → PutFault → Type 0
IsUnfilled path order items image told = IsImageFault path told ⊎ IsUnputIn order items image told
