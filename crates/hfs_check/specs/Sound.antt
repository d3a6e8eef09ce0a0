-- When an image is sound: one fact for each check.
use Rattle.std.specs.Prelude.{◌≡◌, ℕ, ◌+◌, ◌%◌, ◌≤◌, ◌⊎◌, List, length}
use Rattle.hfs_fields.specs.declared.mdb.Mdb.{Mdb}
use Rattle.hfs_fields.specs.declared.extent.Extent.{Extent}
use Rattle.hfs_fields.specs.declared.key.ExtKey.{ExtKey}
use Rattle.hfs_btree.specs.declared.key.Key.{Ghosts}
use Rattle.hfs_fields.specs.Each.{Each}
use Rattle.hfs_btree.specs.Tree.{Store, records_in, key_at}
use Rattle.hfs_btree.specs.Header.{tree_turn}
use Rattle.hfs_blocks.specs.Blocks.{block_at, block_count}
use Rattle.hfs_btree.specs.Sound.{AreKeysInOrder, IsShaped, IsOrdered}
use Rattle.hfs_btree_checks.specs.Order.{index_keys}
use Rattle.hfs_space.specs.Bitmap.{bitmap_len}
use Rattle.hfs_space.specs.Forks.{HasArea}
use Rattle.hfs_space.specs.TreeKeys.{ext_keys}
use Rattle.hfs_space.specs.Sound.{IsTreeFile, AreForksSound, IsSpaceSound}
use Rattle.hfs_catalog.specs.Records.{Catalog}
use Rattle.hfs_catalog.specs.Tree.{cat_keys}
use Rattle.hfs_catalog.specs.Sound.{EachFolder, IsRecord, AreIdsSound, AreNamesSound, IsIndexKeyName, ArePlacesSound, HasValence, AreCountsSound}
use Rattle.hfs_check.specs.Parts.{Blocks, mdb_in, extents_nodes, overflow_in, catalog_extents, catalog_nodes, catalog_in, owned_in}

-- ---- length

-- three blocks to 2 gigabytes
pub record IsImageLength (bytes : ℕ) : Type 0 where
  pub least : 1536 ≤ bytes
  pub most : bytes ≤ 2147483648

-- ---- the master directory block of a volume of so many blocks

-- the bitmap lies in the volume
abbrev pub HasBitmap : Mdb → ℕ → Type 0
HasBitmap mdb total = mdb.bitmap_start + bitmap_len mdb.allocation_blocks ≤ total

pub record IsMdbSound (total : ℕ) (mdb : Mdb) : Type 0 where
  pub signature : mdb.signature ≡ 0x4244
  pub some : 1 ≤ mdb.allocation_blocks
  -- an allocation block is one or more whole blocks
  pub least_size : 512 ≤ mdb.allocation_block_size
  pub whole_size : mdb.allocation_block_size % 512 ≡ 0
  -- the bitmap lies after this block and before the allocation blocks
  pub bitmap_behind : 3 ≤ mdb.bitmap_start
  pub bitmap_before : mdb.bitmap_start + bitmap_len mdb.allocation_blocks ≤ mdb.allocation_start
  -- the allocation blocks lie in the volume
  pub area : HasArea mdb total
  pub next_id : 16 ≤ mdb.next_id

-- ---- the extents tree

-- of the data or of the resource fork
abbrev pub IsForkKey : ExtKey → Type 0
IsForkKey key = (key.fork ≡ 0) ⊎ (key.fork ≡ 255)

-- the fact holds of the key of each record, in leaves and index nodes
abbrev pub EachKey : {K : Type 0} → Ghosts K → (K → Type 0) → Store → Type 0
EachKey g Fact nodes = Each (λ spot. Each (λ entry. Fact (key_at g spot.above entry)) (records_in nodes spot.n)) (tree_turn g nodes)

pub record IsExtentsSound (mdb : Mdb) (nodes : Store) : Type 0 where
  pub file : IsTreeFile mdb mdb.extents_file mdb.extents_file_size
  pub shape : IsShaped ext_keys mdb.extents_file_size nodes
  pub forks : EachKey ext_keys IsForkKey nodes
  pub ordered : IsOrdered ext_keys nodes

-- ---- the catalog tree

-- its file, which has these extents, and its shape
pub record IsCatalogFileSound (mdb : Mdb) (extents : List Extent) (nodes : Store) : Type 0 where
  pub file : IsTreeFile mdb extents mdb.catalog_file_size
  pub shape : IsShaped cat_keys mdb.catalog_file_size nodes

-- the names in the catalog's records and in the keys of its index nodes
pub record AreCatalogNamesSound (nodes : Store) (catalog : Catalog) : Type 0 where
  pub records : AreNamesSound catalog
  pub index : Each IsIndexKeyName (index_keys cat_keys nodes)

-- each index key is at most the leaf keys below it, and above those of the child before
abbrev pub AreIndexKeysInOrder : {K : Type 0} → Ghosts K → Store → Type 0
AreIndexKeysInOrder g nodes = Each (λ spot. AreKeysInOrder g nodes spot.above spot.n) (tree_turn g nodes)

-- order, parents and threads of the catalog's records, and the order of its index keys
pub record AreCatalogPlacesSound (nodes : Store) (catalog : Catalog) : Type 0 where
  pub records : ArePlacesSound catalog
  pub index : AreIndexKeysInOrder cat_keys nodes

-- ---- the whole

-- so many blocks are those of a sound volume: the checks after that of the image's length, in their order
pub record AreBlocksSound (total : ℕ) (blocks : Blocks) : Type 0 where
  pub mdb : IsMdbSound total (mdb_in blocks)
  pub extents : IsExtentsSound (mdb_in blocks) (extents_nodes blocks)
  pub catalog : IsCatalogFileSound (mdb_in blocks) (catalog_extents blocks) (catalog_nodes blocks)
  pub records : Each IsRecord (catalog_in blocks)
  pub ids : AreIdsSound (mdb_in blocks).next_id (catalog_in blocks)
  pub names : AreCatalogNamesSound (catalog_nodes blocks) (catalog_in blocks)
  pub places : AreCatalogPlacesSound (catalog_nodes blocks) (catalog_in blocks)
  pub valences : EachFolder (HasValence (catalog_in blocks)) (catalog_in blocks)
  pub counts : AreCountsSound (mdb_in blocks) (catalog_in blocks)
  pub forks : AreForksSound (mdb_in blocks) (overflow_in blocks) (catalog_in blocks)
  pub space : IsSpaceSound blocks (mdb_in blocks) (owned_in blocks)

-- the image of a sound volume; bytes after its last whole block belong to no block
pub record IsSound (image : List ℕ) : Type 0 where
  pub len : IsImageLength (length image)
  pub blocks : AreBlocksSound (block_count image) (block_at image)
