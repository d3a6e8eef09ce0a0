-- What is read off the blocks of a volume, which are given by their numbers from 0 on. Each part is a total function; it
-- means what its name says where the parts that it is read from are sound.
use Rattle.std.specs.Prelude.{ℕ, Bool, List, take}
use Rattle.hfs_fields.specs.declared.mdb.Mdb.{Mdb}
use Rattle.hfs_fields.specs.declared.extent.Extent.{Extent}
use Rattle.hfs_fields.specs.Mdb.{mdb_of}
use Rattle.hfs_btree.specs.Tree.{Store}
use Rattle.hfs_space.specs.Extents.{Overflow}
use Rattle.hfs_space.specs.TreeFiles.{tree_nodes, tree_blocks}
use Rattle.hfs_space.specs.TreeKeys.{overflow_of}
use Rattle.hfs_space.specs.Owners.{catalog_fork, extents_in, owned_blocks}
use Rattle.hfs_space.specs.Bitmap.{is_used}
use Rattle.hfs_catalog.specs.Records.{Catalog}
use Rattle.hfs_catalog.specs.Tree.{catalog_of}

-- the blocks of a volume, of 512 bytes each
abbrev pub Blocks : Type 0
Blocks = ℕ → List ℕ

-- the master directory block is block 2
unfoldable pub mdb_in : Blocks → Mdb
mdb_in blocks = mdb_of (take 162 (blocks 2))

-- the nodes of the extents file, as many as its size has
unfoldable pub extents_nodes : Blocks → Store
extents_nodes blocks = tree_nodes blocks (mdb_in blocks) (mdb_in blocks).extents_file (mdb_in blocks).extents_file_size

-- the logical blocks in which they lie, by their numbers
unfoldable pub extents_blocks : Blocks → List ℕ
extents_blocks blocks = tree_blocks (mdb_in blocks) (mdb_in blocks).extents_file (mdb_in blocks).extents_file_size

-- the records of the extents tree
unfoldable pub overflow_in : Blocks → Overflow
overflow_in blocks = overflow_of (extents_nodes blocks)

-- the extents of the catalog file, with those that go on in the extents tree
unfoldable pub catalog_extents : Blocks → List Extent
catalog_extents blocks = extents_in (overflow_in blocks) (catalog_fork (mdb_in blocks))

-- the nodes of the catalog file, as many as its size has
unfoldable pub catalog_nodes : Blocks → Store
catalog_nodes blocks = tree_nodes blocks (mdb_in blocks) (catalog_extents blocks) (mdb_in blocks).catalog_file_size

-- the logical blocks in which they lie, by their numbers
unfoldable pub catalog_blocks : Blocks → List ℕ
catalog_blocks blocks = tree_blocks (mdb_in blocks) (catalog_extents blocks) (mdb_in blocks).catalog_file_size

-- the records of the catalog
unfoldable pub catalog_in : Blocks → Catalog
catalog_in blocks = catalog_of (catalog_nodes blocks)

-- the allocation blocks that somebody owns, once for each owner
unfoldable pub owned_in : Blocks → List ℕ
owned_in blocks = owned_blocks (mdb_in blocks) (overflow_in blocks) (catalog_in blocks)

-- whether an allocation block is marked in the bitmap as in use
unfoldable pub is_marked_in : Blocks → ℕ → Bool
is_marked_in blocks n = is_used blocks (mdb_in blocks).bitmap_start n
