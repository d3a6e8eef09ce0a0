-- The items of a volume as a bag keeps them.
use Rattle.std.specs.Prelude.{◌≡◌, ℕ, List, [], ◌∷◌, ◌++◌, length, codes, Option, None}
use Rattle.sha2.specs.Sha256.{sha256}
use Rattle.hfs_encodings.specs.AppleDouble.{apple_double_head_bytes}
use Rattle.hfs_encodings.specs.declared.apple_double.AppleDoubleHead.{AppleDoubleHead}
use Rattle.hfs_bag.specs.Entries.{ShelfEntry, folder, file}
use Rattle.hfs_bag.specs.declared.item.BagKind.{BagKind}
use Rattle.hfs_bag.specs.declared.item.BagKind.TheVariants as kind
use Rattle.hfs_bag.specs.declared.item.BagHead.{BagHead}
use Rattle.hfs_bag.specs.declared.item.ItemDigests.{ItemDigests}
use Rattle.hfs_bag.specs.declared.item.ItemDigests.TheVariants as digests

-- an item below the root, or a part of one. `above` is the path below the payload of the folder that holds it, with a slash behind it, and no text where that is the payload itself; a folder has no bytes in its forks; when it was modified, in seconds since the beginning of 1970, is told where that wasn't before
pub record BagItem : Type 0 where
  pub above : List ℕ
  pub name : List ℕ
  pub kind : BagKind
  pub finder : List ℕ
  pub modified : Option ℕ
  pub data_fork : List ℕ
  pub resource_fork : List ℕ

-- where the item lies, and where its AppleDouble file
abbrev pub item_path : BagItem → List ℕ
item_path item = codes "data/" ++ (item.above ++ item.name)

abbrev pub double_path : BagItem → List ℕ
double_path item = codes "data/" ++ (item.above ++ (codes "._" ++ item.name))

-- the head of the AppleDouble file, and the whole of it
abbrev pub double_head : BagItem → AppleDoubleHead
double_head item = record { finder = item.finder; resource_length = length item.resource_fork }

abbrev pub double_bytes : BagItem → List ℕ
double_bytes item = apple_double_head_bytes (double_head item) ++ item.resource_fork

abbrev pub double_entry : BagItem → ShelfEntry
double_entry item = file (double_path item) None (double_bytes item)

abbrev pub folder_entry : BagItem → ShelfEntry
folder_entry item = folder (item_path item)

abbrev pub data_entry : BagItem → ShelfEntry
data_entry item = file (item_path item) item.modified item.data_fork

-- a file's data fork, which is to have its time, and then its AppleDouble file; a folder's AppleDouble file and then the folder; or one of them alone
abbrev pub entries_of_kind : BagKind → BagItem → List ShelfEntry
entries_of_kind kind.File item = data_entry item ∷ double_entry item ∷ []
entries_of_kind kind.Folder item = double_entry item ∷ folder_entry item ∷ []
entries_of_kind kind.FolderAlone item = folder_entry item ∷ []
entries_of_kind kind.DoubleAlone item = double_entry item ∷ []

abbrev pub item_entries : BagItem → List ShelfEntry
item_entries item = entries_of_kind item.kind item

-- what is kept of the digests of an item's files
abbrev pub digests_of_kind : BagKind → BagItem → ItemDigests
digests_of_kind kind.File item = digests.File (sha256 item.data_fork) (sha256 (double_bytes item))
digests_of_kind kind.Folder item = digests.Double (sha256 (double_bytes item))
digests_of_kind kind.FolderAlone item = digests.NoFile
digests_of_kind kind.DoubleAlone item = digests.Double (sha256 (double_bytes item))

abbrev pub item_digests : BagItem → ItemDigests
item_digests item = digests_of_kind item.kind item

-- this is told of the item before its forks are read
pub record IsHead (head : BagHead) (item : BagItem) : Type 0 where
  pub kind_is : head.kind ≡ item.kind
  pub finder_is : head.finder ≡ item.finder
  pub data_is : head.data_length ≡ length item.data_fork
  pub resource_is : head.resource_length ≡ length item.resource_fork
  pub modified_is : head.modified ≡ item.modified
