-- Bags: the list of folders and files that a volume becomes.
use Rattle.std.specs.Prelude.{ℕ, suc, ◌+◌, List, [], ◌∷◌, ◌++◌, length, codes, map}
use Rattle.std.specs.List.{flat_map}
use Rattle.hex.specs.Hex.{encode_lower}
use Rattle.sha2.specs.Sha256.{sha256}
use Rattle.hfs_bag.specs.Entries.{ShelfEntry, folder, file}
use Rattle.hfs_bag.specs.declared.item.ItemDigests.{ItemDigests}
use Rattle.hfs_bag.specs.declared.item.ItemDigests.TheVariants as digests
use Rattle.hfs_bag.specs.Items.{BagItem, item_digests, item_entries}

-- the payload: its folder, and what there is of each item
abbrev pub items_entries : List BagItem → List ShelfEntry
items_entries items = flat_map item_entries items

abbrev pub payload : List BagItem → List ShelfEntry
payload items = folder (codes "data") ∷ items_entries items

-- ---- manifests

-- a digest in 64 lower-case hexadecimal digits, two spaces, and the path
unfoldable pub digest_line : List ℕ → List ℕ → List ℕ
digest_line digest path = encode_lower digest ++ codes "  " ++ path ++ codes "\n"

-- a line for each file; a folder has none
abbrev pub manifest_line : ShelfEntry → List ℕ
manifest_line (file path time bytes) = digest_line (sha256 bytes) path
manifest_line (folder path) = []

abbrev pub manifest : List ShelfEntry → List ℕ
manifest entries = flat_map manifest_line entries

-- ---- how much there is

-- the bytes of all files
abbrev pub bytes_in : List ShelfEntry → ℕ
bytes_in [] = 0
bytes_in (file path time bytes ∷ rest) = length bytes + bytes_in rest
bytes_in (folder path ∷ rest) = bytes_in rest

-- the number of files
abbrev pub files_in : List ShelfEntry → ℕ
files_in [] = 0
files_in (file path time bytes ∷ rest) = suc (files_in rest)
files_in (folder path ∷ rest) = files_in rest

-- 1 where there is a file with a data fork
abbrev pub file_number : ItemDigests → ℕ
file_number (digests.File data_fork double) = 1
file_number (digests.Double double) = 0
file_number digests.NoFile = 0

-- 1 where there is an AppleDouble file
abbrev pub double_number : ItemDigests → ℕ
double_number (digests.File data_fork double) = 1
double_number (digests.Double double) = 1
double_number digests.NoFile = 0

-- the number of items with an AppleDouble file
abbrev pub doubles_told : List ItemDigests → ℕ
doubles_told [] = 0
doubles_told (told ∷ rest) = double_number told + doubles_told rest

-- the number of items with a file of their data fork
abbrev pub files_told : List ItemDigests → ℕ
files_told [] = 0
files_told (told ∷ rest) = file_number told + files_told rest

-- the number of items that have a file with their data fork
abbrev pub file_items : List BagItem → ℕ
file_items items = files_told (map item_digests items)
