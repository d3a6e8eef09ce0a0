-- What is put on a volume in a file, and what the file is to hold then.
use Rattle.std.specs.Prelude.{◌≡◌, ◌⊎◌, ◌≤◌, ◌/◌, ℕ, List, length, None, Some}
use Rattle.std.specs.Borrow.{Bor}
use Rattle.hfs_put_sources.specs.Digests.{first_wrong}
use Rattle.hfs_put_sources.specs.Faults.{IsListingFault}
use Rattle.hfs_put_sources.specs.declared.fault.HostFault.{HostFault}
use Rattle.hfs_put_sources.specs.Later.{Entries, told_at}
use Rattle.hfs_blocks.specs.Blocks.{block_at, block_count}
use Rattle.hfs_check.specs.Faults.{fault_of}
use Rattle.hfs_check.specs.Parts.{mdb_in}
use Rattle.hfs_check.specs.VolumeOf.{volume_of}
use Rattle.hfs_commands.specs.declared.fault.Fault.{Fault}
use Rattle.hfs_commands.specs.declared.fault.Fault.TheVariants as why
use Rattle.hfs_commands.specs.declared.watched_range.WatchedRange.{WatchedRange}
use Rattle.hfs_check.specs.declared.mount_fault.MountFault.{MountFault}
use Rattle.hfs_put.specs.PutImages.{HasDirectory, IsPutOver}
use Rattle.hfs_put.specs.declared.putting.PutBlocks.{PutBlocks}
use Rattle.hfs_source.specs.Images.{FailsInRange, IsRangeOf, OfEach}
use Rattle.hfs_put_sources.specs.Items.{PlannedItem}
use Rattle.hfs_put_sources.specs.Trees.{OfEachTree, Tree}
use Rattle.hfs_copy.specs.Working.{IsWorkingCopy}
use Rattle.hfs_word_put.specs.declared.fault.PutFault.{PutFault}
use Rattle.hfs_word_put.specs.declared.fault.PutFault.TheVariants as fault
use Rattle.hfs_word_put.specs.declared.lines.PutSums.{PutSums}
use Rattle.hfs_word_put.specs.declared.order.PutOrder.{PutOrder}
use Rattle.hfs_word_put.specs.declared.placing.PlacedList.{PlacedList}
use Rattle.hfs_word_put.specs.Laid.{IsUnlaid, wants_of}
use Rattle.hfs_word_put.specs.Orders.{sources_of}
use Rattle.hfs_word_put.specs.Listed.{IsListed, IsUnlisted, IsUnverified}
use Rattle.hfs_word_put.specs.Placed.{IsPlaced, TellsAny, refusal}
use Rattle.hfs_word_put.specs.Sums.{put_sums}

-- ---- the copy on which the calls are made

-- the copy has the blocks that calls read and write of each of these images that has so many bytes
pub record IsCopyOfEach (Holds : List ℕ → Type 0) (len : ℕ) (copy : List ℕ) : Type 0 where
  pub small : len ≤ 2147483648
  pub count : block_count copy ≡ len / 512
  pub same : OfEach Holds (λ image. length image ≡ len → IsWorkingCopy copy image)

-- where the image has so many bytes, it is refused for this
abbrev pub IsRefusedImage : ℕ → MountFault → List ℕ → Type 0
IsRefusedImage len refusal image = length image ≡ len → fault_of image ≡ Some refusal

-- an image that was opened by this path can't be read, or is too much, or each of these images is refused
abbrev pub IsUnmounted : Bor (List ℕ) → (List ℕ → Type 0) → ℕ → Fault → Type 0
IsUnmounted path Range len found =
    (found ≡ why.CannotRead path) ⊎ ((found ≡ why.NoMemory) ⊎ ((refusal : MountFault) × (found ≡ why.Refused refusal) × OfEach Range (IsRefusedImage len refusal)))

-- ---- what is put

-- the list was put on the volume of the copy, which is this one then: these blocks go out, and these forks are to be laid; so much was put
pub record IsPutOn (order : PutOrder) (copy current : List ℕ) (items : List PlannedItem) (put : PutBlocks) (sums : PutSums) : Type 0 where
  pub list : PlacedList
  pub placed : IsPlaced (volume_of copy) order items list
  pub over : IsPutOver copy current list.target order.now list.places.items put.patch put.runs.items put.ids.items
  -- what is saved has that volume's master directory block
  pub directory : HasDirectory copy list.places.items put.patch put.runs.items (mdb_in (block_at current))
  pub sums_are : sums ≡ put_sums list.places.items (mdb_in (block_at current)).free_blocks

-- a call that puts the list was refused
pub record IsRefusedOn (order : PutOrder) (copy : List ℕ) (items : List PlannedItem) (told : PutFault) : Type 0 where
  pub list : PlacedList
  pub placed : IsPlaced (volume_of copy) order items list
  pub image : List ℕ
  pub unlaid : IsUnlaid list order.now items (wants_of (block_at copy) list.places.items) (volume_of copy) image told

-- the list was not put: something can't come to its place, which is looked for before all calls, or a call was refused
abbrev pub IsUnputOn : PutOrder → List ℕ → List PlannedItem → PutFault → Type 0
IsUnputOn order copy items told = TellsAny (refusal (volume_of copy) order items) told ⊎ IsRefusedOn order copy items told

-- ---- what comes, and is put

-- what comes was listed, has the digests that are told of it, and was put
pub record IsPutOf (Hosts : Tree → Type 0) (order : PutOrder) (copy : List ℕ) (items : List PlannedItem) (put : PutBlocks) (sums : PutSums) : Type 0 where
  pub digests : Entries (List ℕ)
  pub listed : OfEachTree Hosts (IsListed order items digests)
  pub verified : OfEachTree Hosts (λ host. first_wrong host (told_at digests) items ≡ None)
  pub current : List ℕ
  pub done : IsPutOn order copy current items put sums

-- what comes was listed, and not put; or it was, and a file has another digest
pub record IsUnputList (Fails : HostFault → Type 0) (Hosts : Tree → Type 0) (order : PutOrder) (copy : List ℕ) (told : PutFault) : Type 0 where
  pub items : List PlannedItem
  pub digests : Entries (List ℕ)
  pub listed : OfEachTree Hosts (IsListed order items digests)
  pub why : IsUnputOn order copy items told ⊎ IsUnverified Fails Hosts digests items told

-- why nothing was put on the volume of the copy
abbrev pub IsUnput : (HostFault → Type 0) → (Tree → Type 0) → PutOrder → List ℕ → PutFault → Type 0
IsUnput Fails Hosts order copy told =
    IsUnlisted (IsListingFault Fails Hosts (sources_of order)) told ⊎ IsUnputList Fails Hosts order copy told

-- what comes was put on a copy of each of these images that has so many bytes
pub record IsPutFrom (Range : List ℕ → Type 0) (Hosts : Tree → Type 0) (order : PutOrder) (len : ℕ) (items : List PlannedItem) (put : PutBlocks) (sums : PutSums) : Type 0 where
  pub copy : List ℕ
  pub copied : IsCopyOfEach Range len copy
  pub done : IsPutOf Hosts order copy items put sums

-- the image was not mounted, and that is told
abbrev pub IsImageFault : Bor (List ℕ) → (List ℕ → Type 0) → ℕ → PutFault → Type 0
IsImageFault path Range len told = (found : Fault) × (told ≡ fault.Image found) × IsUnmounted path Range len found

-- nothing was put on a copy of each of these images that has so many bytes
pub record IsUnputCopy (Range : List ℕ → Type 0) (Fails : HostFault → Type 0) (Hosts : Tree → Type 0) (order : PutOrder) (len : ℕ) (told : PutFault) : Type 0 where
  pub copy : List ℕ
  pub copied : IsCopyOfEach Range len copy
  pub unput : IsUnput Fails Hosts order copy told

-- why nothing was put on an image that was opened by this path
abbrev pub IsUnputFrom : Bor (List ℕ) → (List ℕ → Type 0) → (HostFault → Type 0) → (Tree → Type 0) → PutOrder → ℕ → PutFault → Type 0
IsUnputFrom path Range Fails Hosts order len told = IsImageFault path Range len told ⊎ IsUnputCopy Range Fails Hosts order len told

-- the images that lie in a range of a file of which such bytes were read
abbrev pub range_images : {S : Type 0} → (S → List ℕ → Type 0) → WatchedRange S → List ℕ → Type 0
range_images Files range = IsRangeOf (Files range.bytes.bytes) range.bytes.start range.bytes.len

-- where a read of such a range may fail, by where one of its file may
abbrev pub range_failures : {S : Type 0} → (S → ℕ → ℕ → Type 0) → WatchedRange S → ℕ → ℕ → Type 0
range_failures Fails range = FailsInRange (Fails range.bytes.bytes) range.bytes.start range.bytes.len

-- why nothing was put on the image of a range that was opened by this path: of each that has the bytes which were read, and of each tree that has what
-- was read; where what comes can't be read, this tree may fail so
pub record IsUnputSources {S T : Type 0} (Files : S → List ℕ → Type 0) (Fails : T → HostFault → Type 0) (Hosts : T → Tree → Type 0) (range : WatchedRange S) (tree : T) (path : Bor (List ℕ)) (order : PutOrder) (told : PutFault) : Type 0 where
  pub read : WatchedRange S
  pub seen : T
  pub narrows : OfEach (range_images Files read) (range_images Files range)
  pub held : OfEachTree (Hosts seen) (Hosts tree)
  pub why : IsUnputFrom path (range_images Files read) (Fails tree) (Hosts seen) order range.bytes.len told
