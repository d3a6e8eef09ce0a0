-- What holds of what remains, whatever an image says.
use Rattle.std.specs.Prelude.{◌≡◌, ℕ, ◌+◌, ◌-◌, ◌*◌, ◌^◌, ◌<◌, ◌≤◌, Bool, false, not, List, count_by, map, length, slice_index, Some}
use Rattle.std.specs.List.{range_with_len}
use Rattle.hfs_fields.specs.declared.mdb.Mdb.{Mdb}
use Rattle.hfs_fields.specs.Each.{Each}
use Rattle.hfs_btree.specs.Node.{node_of}
use Rattle.hfs_blocks.specs.Blocks.{block_at, block_count}
use Rattle.hfs_catalog.specs.Records.{items_of as items_in}
use Rattle.hfs_check.specs.Parts.{Blocks, mdb_in, overflow_in, catalog_in}
use Rattle.hfs_check.specs.Sound.{AreBlocksSound, IsSound}
use Rattle.hfs_space.specs.Extents.{block_total}
use Rattle.hfs_space.specs.Forks.{blocks_each}
use Rattle.hfs_remains.specs.Directory.{directory_of, mdb_at}
use Rattle.hfs_remains.specs.TreeFiles.{FileBlocks}
use Rattle.hfs_remains.specs.LeafRecords.{leaf_records, with_age}
use Rattle.hfs_remains.specs.CatalogRecords.{found, found_in_leaves, is_node_block, nodes_there, scattered_records}
use Rattle.hfs_remains.specs.Remains.{remaining_overflow, remaining_records}
use Rattle.hfs_remains.specs.Items.{is_named_item, items_of}
use Rattle.hfs_remains.specs.declared.catalog.FoundRecord.{FoundRecord}

-- how many of these records are items
abbrev pub items_among : List FoundRecord → ℕ
items_among records = count_by is_named_item records

-- 512 bytes have at most six items
abbrev pub BlocksHaveFewItems : Type 0
BlocksHaveFewItems = (old : Bool) (bytes : List ℕ) → items_among (found_in_leaves (with_age old (leaf_records (node_of bytes)))) ≤ 6

-- the blocks that are looked at besides the nodes of the catalog's file
abbrev pub others : ℕ → Mdb → FileBlocks → ℕ
others total mdb file = count_by (λ k. not (is_node_block mdb file k)) (range_with_len 3 (total - 3))

-- a catalog that does not pass its check gives at most six items for each of its nodes that is there, and for each other block
abbrev pub ItemsAreFew : Type 0
ItemsAreFew =
    (total : ℕ) (blocks : Blocks) (mdb : Mdb) (file : FileBlocks) → 1 ≤ blocks_each mdb
    → length (items_of (scattered_records total blocks mdb file)) ≤ 6 * (nodes_there mdb file + others total mdb file)

-- ---- what is read from bytes

-- each element is a byte
abbrev pub AreBytes : List ℕ → Type 0
AreBytes xs = (k : ℕ) → slice_index xs k < 256

-- a record with a name of at most 31 bytes, a number of 32 bits, and a body of bytes
pub record IsReadRecord (r : FoundRecord) : Type 0 where
  pub name : AreBytes r.entry.0.name
  pub short : length r.entry.0.name ≤ 31
  pub parent : r.entry.0.parent < 2 ^ 32
  pub body : AreBytes r.entry.1

-- all records that remain in blocks of bytes are of this kind
abbrev pub RecordsAreRead : Type 0
RecordsAreRead = (total : ℕ) (blocks : Blocks) (mdb : Mdb) → ((n : ℕ) → AreBytes (blocks n)) → Each IsReadRecord (remaining_records total blocks mdb)

-- a directory of an image has fewer blocks than 2 ^ 16, of a size of 32 bits
pub record IsReadDirectory (mdb : Mdb) : Type 0 where
  pub few : mdb.allocation_blocks < 2 ^ 16
  pub size : mdb.allocation_block_size < 2 ^ 32
  pub some : 1 ≤ blocks_each mdb

-- by such a directory fewer than 2 ^ 48 items remain in blocks of bytes
abbrev pub ItemsAreCounted : Type 0
ItemsAreCounted =
    (total : ℕ) (blocks : Blocks) (mdb : Mdb) → ((n : ℕ) → AreBytes (blocks n)) → total < 2 ^ 32 → IsReadDirectory mdb → length (items_of (remaining_records total blocks mdb)) < 2 ^ 48

-- and each directory that is found in an image of bytes is of this kind
abbrev pub DirectoriesAreRead : Type 0
DirectoriesAreRead = (image : List ℕ) (n : ℕ) → AreBytes image → directory_of image ≡ Some n → IsReadDirectory (mdb_at (block_at image) n) × (block_count image < 2 ^ 32)

-- ---- a sound volume

-- the records of the extents tree are its own
abbrev pub SoundOverflowIsFound : Type 0
SoundOverflowIsFound = (total : ℕ) (blocks : Blocks) → AreBlocksSound total blocks → remaining_overflow total blocks (mdb_in blocks) ≡ overflow_in blocks

-- the records that are found are those of its catalog, in order, and none is old
abbrev pub SoundCatalogIsFound : Type 0
SoundCatalogIsFound = (total : ℕ) (blocks : Blocks) → AreBlocksSound total blocks → remaining_records total blocks (mdb_in blocks) ≡ map (found false) (catalog_in blocks)

-- and its items are the folders and files among these
abbrev pub SoundItemsAreFound : Type 0
SoundItemsAreFound = (total : ℕ) (blocks : Blocks) → AreBlocksSound total blocks → items_of (remaining_records total blocks (mdb_in blocks)) ≡ map (found false) (items_in (catalog_in blocks))

-- the directory is found in its place, where the catalog file has a block in the directory's own extents of it
abbrev pub SoundDirectoryIsFound : Type 0
SoundDirectoryIsFound = (image : List ℕ) → IsSound image → 0 < block_total (mdb_in (block_at image)).catalog_file → directory_of image ≡ Some 2
