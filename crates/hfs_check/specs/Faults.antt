-- The first check of an image that fails, and its place.
use Rattle.std.specs.Prelude.{ℕ, ◌+◌, ◌*◌, ◌%◌, Bool, true, false, ◌&&◌, ◌||◌, ◌==◌, nat_le, List, length, Option, Some, None}
use Rattle.std.specs.Option.{option_map, is_none}
use Rattle.hfs_fields.specs.declared.mdb.Mdb.{Mdb}
use Rattle.hfs_fields.specs.declared.extent.Extent.{Extent}
use Rattle.hfs_fields.specs.declared.key.ExtKey.{ExtKey}
use Rattle.hfs_btree.specs.declared.key.Key.{Ghosts}
use Rattle.hfs_btree.specs.Tree.{Store}
use Rattle.hfs_blocks.specs.Blocks.{block_at, block_count}
use Rattle.hfs_btree_checks.specs.Shape.{unless, ◌or_else◌, has_counts, structure_fault}
use Rattle.hfs_btree_checks.specs.Order.{index_keys, index_order_fault, key_fault, order_fault}
use Rattle.hfs_space.specs.Bitmap.{bitmap_len}
use Rattle.hfs_space.specs.Forks.{blocks_each}
use Rattle.hfs_space.specs.TreeKeys.{ext_keys}
use Rattle.hfs_space.specs.Faults.{is_tree_file, fork_fault, space_fault}
use Rattle.hfs_catalog.specs.Records.{Catalog}
use Rattle.hfs_catalog.specs.Tree.{cat_keys}
use Rattle.hfs_catalog.specs.Faults.{record_fault, id_fault, name_fault, place_fault, valence_fault, count_fault}
use Rattle.hfs_check.specs.declared.mount_fault.MountFault.{MountFault}
use Rattle.hfs_check.specs.declared.mount_fault.MountFault.TheVariants.{TooLarge, Short, NoMacDisk, BadMdb, Check}
use Rattle.hfs_check.specs.Parts.{Blocks, mdb_in, extents_nodes, overflow_in, catalog_extents, catalog_nodes, catalog_in, owned_in}

-- the first fault, or where there is none the second
infixr 10 ◌or_fault◌
abbrev pub ◌or_fault◌ : Option MountFault → Option MountFault → Option MountFault
None or_fault next = next
Some fault or_fault next = Some fault

-- this fault, unless the test holds
abbrev pub fault_unless : MountFault → Bool → Option MountFault
fault_unless fault true = None
fault_unless fault false = Some fault

-- the fault of the check of this number, where it fails at a place
abbrev pub check_fault : ℕ → Option ℕ → Option MountFault
check_fault number place = option_map (Check number) place

-- ---- length

-- of an image of so many bytes
unfoldable pub length_fault : ℕ → Option MountFault
length_fault bytes = ◌or_fault◌ (fault_unless TooLarge (nat_le bytes 2147483648)) (fault_unless Short (nat_le 1536 bytes))

-- ---- the master directory block of a volume of so many blocks

-- an allocation block is one or more whole blocks
abbrev pub is_block_size : Mdb → Bool
is_block_size mdb = nat_le 512 mdb.allocation_block_size && (mdb.allocation_block_size % 512 == 0)

-- the bitmap lies after the master directory block and before the allocation blocks
abbrev pub is_bitmap_placed : Mdb → Bool
is_bitmap_placed mdb = nat_le 3 mdb.bitmap_start && nat_le (mdb.bitmap_start + bitmap_len mdb.allocation_blocks) mdb.allocation_start

-- the allocation blocks lie in the volume
abbrev pub has_area : ℕ → Mdb → Bool
has_area total mdb = nat_le (mdb.allocation_start + mdb.allocation_blocks * blocks_each mdb) total

unfoldable pub mdb_fault : ℕ → Mdb → Option MountFault
mdb_fault total mdb =
    fault_unless NoMacDisk (mdb.signature == 0x4244)
    or_fault fault_unless (BadMdb 1) (nat_le 1 mdb.allocation_blocks)
    or_fault fault_unless (BadMdb 2) (is_block_size mdb)
    or_fault fault_unless (BadMdb 3) (is_bitmap_placed mdb)
    or_fault fault_unless (BadMdb 4) (has_area total mdb)
    or_fault fault_unless (BadMdb 5) (nat_le 16 mdb.next_id)

-- ---- the two trees: the number of a node

-- the first fault of a tree's shape, where it is said whether its header counts records and free nodes right
abbrev pub counted_shape_fault : {K : Type 0} → Ghosts K → Bool → ℕ → Store → Option ℕ
counted_shape_fault g counts size nodes = structure_fault g size nodes or_else unless counts

abbrev pub is_fork_key : ExtKey → Bool
is_fork_key key = (key.fork == 0) || (key.fork == 255)

-- of its file, of its shape, of the fork in a key, of its order
unfoldable pub extents_fault : Bool → Mdb → Store → Option ℕ
extents_fault counts mdb nodes =
    unless (is_tree_file mdb mdb.extents_file mdb.extents_file_size)
    or_else counted_shape_fault ext_keys counts mdb.extents_file_size nodes
    or_else key_fault ext_keys nodes is_fork_key
    or_else order_fault ext_keys nodes

-- of its file, which has these extents, and of its shape
unfoldable pub catalog_fault : Bool → Mdb → List Extent → Store → Option ℕ
catalog_fault counts mdb extents nodes =
    unless (is_tree_file mdb extents mdb.catalog_file_size) or_else counted_shape_fault cat_keys counts mdb.catalog_file_size nodes

-- whether the header of the extents tree, or of the catalog tree, counts right
abbrev pub extents_counts : Blocks → Bool
extents_counts blocks = has_counts ext_keys (extents_nodes blocks)

abbrev pub catalog_counts : Blocks → Bool
catalog_counts blocks = has_counts cat_keys (catalog_nodes blocks)

-- the first fault of the two, where it is said of each whether its header counts right
unfoldable pub trees_fault : Bool → Bool → Blocks → Option MountFault
trees_fault extents_right catalog_right blocks =
    check_fault 3 (extents_fault extents_right (mdb_in blocks) (extents_nodes blocks))
    or_fault check_fault 4 (catalog_fault catalog_right (mdb_in blocks) (catalog_extents blocks) (catalog_nodes blocks))

-- ---- the catalog's records: the number of a record

-- with the keys of the index nodes
unfoldable pub catalog_name_fault : Store → Catalog → Option ℕ
catalog_name_fault nodes catalog = name_fault (index_keys cat_keys nodes) catalog

-- with the order of the index keys
unfoldable pub catalog_place_fault : Store → Catalog → Option ℕ
catalog_place_fault nodes catalog = place_fault (is_none (index_order_fault cat_keys nodes)) catalog

-- records, IDs, names; order, parents and threads
unfoldable pub records_fault : Blocks → Option MountFault
records_fault blocks =
    check_fault 5 (record_fault (catalog_in blocks))
    or_fault check_fault 6 (id_fault (mdb_in blocks).next_id (catalog_in blocks))
    or_fault check_fault 7 (catalog_name_fault (catalog_nodes blocks) (catalog_in blocks))
    or_fault check_fault 8 (catalog_place_fault (catalog_nodes blocks) (catalog_in blocks))

-- ---- the numbers that are counted, and the space

-- valences, counts, extents, space
unfoldable pub numbers_fault : Blocks → Option MountFault
numbers_fault blocks =
    check_fault 9 (valence_fault (catalog_in blocks))
    or_fault check_fault 10 (count_fault (mdb_in blocks) (catalog_in blocks))
    or_fault check_fault 11 (fork_fault (mdb_in blocks) (overflow_in blocks) (catalog_in blocks))
    or_fault check_fault 12 (space_fault blocks (mdb_in blocks) (owned_in blocks))

-- ---- the whole

-- of so many blocks
unfoldable pub blocks_fault : ℕ → Blocks → Option MountFault
blocks_fault total blocks =
    mdb_fault total (mdb_in blocks)
    or_fault trees_fault (extents_counts blocks) (catalog_counts blocks) blocks
    or_fault records_fault blocks
    or_fault numbers_fault blocks

-- of an image
unfoldable pub fault_of : List ℕ → Option MountFault
fault_of image = length_fault (length image) or_fault blocks_fault (block_count image) (block_at image)
