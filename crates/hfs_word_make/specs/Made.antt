-- A new volume with what comes: what its file is to hold, and why there is none.
use Rattle.std.specs.Prelude.{◌≡◌, ◌⊎◌, ℕ, ◌*◌, List, length, map, Option, None}
use Rattle.std.specs.Borrow.{Bor}
use Rattle.hfs_put_sources.specs.Digests.{first_wrong}
use Rattle.hfs_put_sources.specs.Later.{Entries, told_at}
use Rattle.hfs_blocks.specs.Blocks.{block_at}
use Rattle.hfs_check.specs.Parts.{mdb_in}
use Rattle.hfs_check.specs.VolumeOf.{volume_of}
use Rattle.hfs_source.specs.Ranges.{bytes_in}
use Rattle.hfs_commands.specs.declared.fault.Fault.TheVariants as why
use Rattle.hfs_format.specs.declared.planned_image.PlannedImage.{PlannedImage}
use Rattle.hfs_format.specs.FormatLaws.{volume_of_root}
use Rattle.hfs_format.specs.Image.{image_bytes}
use Rattle.hfs_format.specs.Plan.{block_factor}
use Rattle.hfs_format.specs.declared.new_volume.NewVolume.{NewVolume}
use Rattle.hfs_format.specs.declared.volume_name.VolumeName.{VolumeName}
use Rattle.hfs_format.specs.declared.volume_size.VolumeSize.{VolumeSize}
use Rattle.hfs_word_make.specs.Items.{new_item_of}
use Rattle.hfs_volume.specs.declared.in_file.ImagePlace.{ImagePlace}
use Rattle.hfs_put.specs.Arrivals.{arrivals_of}
use Rattle.hfs_put.specs.PutFiles.{IsFilePut, put_file}
use Rattle.hfs_put_sources.specs.Items.{PlannedItem}
use Rattle.hfs_put_sources.specs.declared.fault.HostFault.{HostFault}
use Rattle.hfs_put_sources.specs.Faults.{IsListingFault}
use Rattle.hfs_put_sources.specs.Trees.{OfEachTree, Tree}
use Rattle.hfs_word_make.specs.declared.order.MakeOrder.{MakeOrder}
use Rattle.hfs_word_make.specs.declared.settled_image.SettledImage.{SettledImage}
use Rattle.hfs_word_make.specs.Doubled.{IsFilled, IsNotFilled}
use Rattle.hfs_word_make.specs.Listed.{IsNewListed}
use Rattle.hfs_word_make.specs.Names.{IsAskedSize, IsBadSized, IsNamed, IsUnnamed}
use Rattle.hfs_word_make.specs.Orders.{sources_of}
use Rattle.hfs_word_put.specs.declared.fault.PutFault.{PutFault}
use Rattle.hfs_word_put.specs.declared.fault.PutFault.TheVariants.{Image}
use Rattle.hfs_word_put.specs.declared.putting.PutImage.{PutImage}
use Rattle.hfs_word_put.specs.declared.putting.PutList.{PutList}
use Rattle.hfs_word_put.specs.Files.{place_of}
use Rattle.hfs_word_put.specs.Listed.{IsUnlisted, IsUnverified}

-- ---- what is wanted

-- a volume of the name that is given or of the one by what comes, and of the size that is asked for, into which these items come, at this moment
pub record IsWanted (Hosts : Tree → Type 0) (order : MakeOrder) (items : List PlannedItem) (wanted : NewVolume) : Type 0 where
  pub named : OfEachTree Hosts (IsNamed order wanted.name)
  pub sized : IsAskedSize order.size wanted.size
  pub items_are : wanted.items.now ≡ map new_item_of items
  pub moment_is : wanted.moment ≡ order.now
  pub once : wanted.catalog_times ≡ 1

-- for which what comes was listed, with the digests that are told of it
pub record IsListedFor (Hosts : Tree → Type 0) (order : MakeOrder) (items : List PlannedItem) (digests : Entries (List ℕ)) (wanted : NewVolume) : Type 0 where
  pub volume : IsWanted Hosts order items wanted
  pub listed : OfEachTree Hosts (IsNewListed order items digests)

-- ---- what is made

-- what comes was listed, was put on this new volume, and has the digests that are told of it
pub record IsMadeOf (Hosts : Tree → Type 0) (order : MakeOrder) (items : List PlannedItem) (planned : PlannedImage) (list : PutList) : Type 0 where
  pub wanted : NewVolume
  pub digests : Entries (List ℕ)
  pub listed : IsListedFor Hosts order items digests wanted
  pub filled : IsFilled wanted order items planned list
  pub verified : OfEachTree Hosts (λ host. first_wrong host (told_at digests) items ≡ None)

-- the new volume's image is a file of its own
abbrev pub own_place : PlannedImage → ImagePlace
own_place planned = place_of 0 (length (image_bytes planned)) None

-- What comes was put on a new volume of that name and moment, on which nothing lay.
pub record IsMadeVolume (Hosts : Tree → Type 0) (order : MakeOrder) (items : List PlannedItem) (planned : PlannedImage) (list : PutList) : Type 0 where
  pub from : IsMadeOf Hosts order items planned list
  pub new : volume_of (image_bytes planned)
      ≡ volume_of_root from.wanted.name.name order.now (512 * block_factor from.filled.filled.image.made.0.blocks)
  -- With these blocks over its image, and the bytes of forks of a tree in their runs, the file holds what the File Manager makes of it by the list of
  -- calls that puts these items into its root, of which the ID is 2.
  pub holds : (host : Tree)
      → IsFilePut 2 order.now (arrivals_of host items from.filled.filled.done.done.list.places.items) list.blocks.ids.items
      from.filled.filled.done.done.over.written (own_place planned) (image_bytes planned)
      (put_file (own_place planned) list.blocks.patch host items list.blocks.runs.items (image_bytes planned))
  -- as many allocation blocks are free then as are told
  pub free : (host : Tree)
      → (mdb_in (block_at (bytes_in (own_place planned).range
      (put_file (own_place planned) list.blocks.patch host items list.blocks.runs.items (image_bytes planned))))).free_blocks ≡ list.sums.free

-- The file is to hold these blocks in the place of the new volume's, and the bytes of forks of what comes in their runs.
pub record IsMadeFile {H W : Type 0} (Hosts : H → Tree → Type 0) (order : MakeOrder) (made : PutImage SettledImage H W) : Type 0 where
  pub list : PutList
  pub is : IsMadeVolume (Hosts made.contents.file.forks.files) order made.contents.file.forks.items.items made.contents.file.forks.bytes.image.planned list
  pub patch : made.contents.patch ≡ list.blocks.patch
  pub runs : made.contents.file.forks.runs ≡ list.blocks.runs
  pub start : made.contents.file.forks.start ≡ 0
  pub place : made.contents.place ≡ own_place made.contents.file.forks.bytes.image.planned
  pub sums : made.sums ≡ list.sums

-- ---- why nothing is made

-- it has its name, but the size that is asked for is none
pub record IsUnsized (Hosts : Tree → Type 0) (order : MakeOrder) (told : PutFault) : Type 0 where
  pub name : VolumeName
  pub named : OfEachTree Hosts (IsNamed order name)
  pub bad : IsBadSized order.size told

-- it has both, but what comes can't be read
pub record IsUnreadList (Fails : HostFault → Type 0) (Hosts : Tree → Type 0) (order : MakeOrder) (told : PutFault) : Type 0 where
  pub name : VolumeName
  pub named : OfEachTree Hosts (IsNamed order name)
  pub size : Option VolumeSize
  pub sized : IsAskedSize order.size size
  pub unread : IsUnlisted (IsListingFault Fails Hosts (sources_of order)) told

-- what comes was listed, and put on no volume
pub record IsUnputList (path : Bor (List ℕ)) (Hosts : Tree → Type 0) (order : MakeOrder) (told : PutFault) : Type 0 where
  pub items : List PlannedItem
  pub digests : Entries (List ℕ)
  pub wanted : NewVolume
  pub listed : IsListedFor Hosts order items digests wanted
  pub unput : IsNotFilled path wanted order items told

-- it was put on one, but a file has another digest than its bag tells, or can't be read
pub record IsUnverifiedList (Fails : HostFault → Type 0) (Hosts : Tree → Type 0) (order : MakeOrder) (told : PutFault) : Type 0 where
  pub items : List PlannedItem
  pub digests : Entries (List ℕ)
  pub wanted : NewVolume
  pub planned : PlannedImage
  pub list : PutList
  pub listed : IsListedFor Hosts order items digests wanted
  pub filled : IsFilled wanted order items planned list
  pub unverified : IsUnverified Fails Hosts digests items told

-- the first of these
abbrev pub IsUnmadeList : Bor (List ℕ) → (HostFault → Type 0) → (Tree → Type 0) → MakeOrder → PutFault → Type 0
IsUnmadeList path Fails Hosts order told =
    IsUnnamed Fails Hosts order told
    ⊎ (IsUnsized Hosts order told ⊎ (IsUnreadList Fails Hosts order told ⊎ (IsUnputList path Hosts order told ⊎ IsUnverifiedList Fails Hosts order told)))

-- all was put, but its forks don't lie in the new volume
pub record IsUnlaidList (path : Bor (List ℕ)) (Hosts : Tree → Type 0) (order : MakeOrder) (told : PutFault) : Type 0 where
  pub items : List PlannedItem
  pub planned : PlannedImage
  pub list : PutList
  pub from : IsMadeOf Hosts order items planned list
  pub told_is : told ≡ Image (why.CannotRead path)

-- so it is of the tree as it was left, which has what was read of it before; where what comes can't be read, the tree may fail so
pub record IsUnmade {T : Type 0} (Fails : T → HostFault → Type 0) (Hosts : T → Tree → Type 0) (path : Bor (List ℕ)) (order : MakeOrder) (tree : T) (told : PutFault) : Type 0 where
  pub left : T
  pub held : OfEachTree (Hosts left) (Hosts tree)
  pub unmade : IsUnmadeList path (Fails tree) (Hosts left) order told ⊎ IsUnlaidList path (Hosts left) order told
