-- The records of a catalog, wherever they are found.
use Rattle.std.specs.Prelude.{ℕ, ◌-◌, ◌*◌, ◌/◌, Bool, true, false, not, ◌&&◌, ◌||◌, ◌==◌, nat_lt, nat_le, if◌then◌else◌, List, [], ◌∷◌, ◌++◌, length, count_by, Option}
use Rattle.std.specs.List.{flat_map, list_all, list_any, range_with_len}
use Rattle.std.specs.Option.{is_none, is_some, option_map_or}
use Rattle.hfs_fields.specs.declared.mdb.Mdb.{Mdb}
use Rattle.hfs_fields.specs.declared.extent.Extent.{Extent}
use Rattle.hfs_fields.specs.Keys.{cat_body_of, is_cat_leaf}
use Rattle.hfs_fields.specs.Records.{is_item, is_thread}
use Rattle.hfs_btree.specs.Node.{node_of}
use Rattle.hfs_btree.specs.Tree.{Store, pair_of}
use Rattle.hfs_btree_checks.specs.Shape.{has_counts}
use Rattle.hfs_catalog.specs.Records.{Record, Catalog}
use Rattle.hfs_catalog.specs.Tree.{cat_keys, catalog_of}
use Rattle.hfs_catalog.specs.Faults.{record_fault}
use Rattle.hfs_space.specs.Forks.{blocks_each}
use Rattle.hfs_space.specs.TreeFiles.{node_count}
use Rattle.hfs_check.specs.Parts.{Blocks}
use Rattle.hfs_check.specs.Faults.{catalog_fault}
use Rattle.hfs_remains.specs.TreeFiles.{FileBlocks, first_nodes, nodes_of}
use Rattle.hfs_remains.specs.LeafRecords.{all_leaf_records, leaf_records, with_age}
use Rattle.hfs_remains.specs.declared.leaf_records.LeafRecord.{LeafRecord}
use Rattle.hfs_remains.specs.declared.catalog.FoundRecord.{FoundRecord}

-- ---- the form of a record

-- the body of a folder, a file or a thread, with its exact length
abbrev pub is_catalog_body : List ℕ → Bool
is_catalog_body body = is_item body || is_thread body

-- a key with a name of at most 31 bytes, whatever these are, and such a body
abbrev pub is_catalog_record : List ℕ → Bool
is_catalog_record bytes = is_cat_leaf bytes && is_catalog_body (cat_body_of bytes)

-- a key and its body, and whether their leaf is old
abbrev pub found : Bool → Record → FoundRecord
found old r = record { old = old; entry = r }

-- a leaf's record, where it has this form
abbrev pub found_in : LeafRecord → List FoundRecord
found_in r = if is_catalog_record r.bytes then found r.old (pair_of cat_keys r.bytes) ∷ [] else []

-- those of leaves, in order
abbrev pub found_in_leaves : List LeafRecord → List FoundRecord
found_in_leaves leaves = flat_map found_in leaves

-- a record of a tree, where its body has this form; it is not old
abbrev pub found_in_tree : Record → List FoundRecord
found_in_tree r = if is_catalog_body r.1 then found false r ∷ [] else []

-- those of a tree, in order
abbrev pub found_of : Catalog → List FoundRecord
found_of records = flat_map found_in_tree records

-- ---- blocks that are no node of the catalog

abbrev pub is_block : ℕ → Option ℕ → Bool
is_block b place = option_map_or (λ c. c == b) place false

-- the allocation block is one of the file's
abbrev pub has_block : FileBlocks → ℕ → Bool
has_block file b = list_any (is_block b) file

-- the logical block is a node of the file
abbrev pub is_node_block : Mdb → FileBlocks → ℕ → Bool
is_node_block mdb file k = nat_le mdb.allocation_start k && has_block file ((k - mdb.allocation_start) / blocks_each mdb)

-- the records of 512 bytes that are a leaf with nothing but catalog records; such a leaf is old
abbrev pub stray_records : List ℕ → List LeafRecord
stray_records bytes = if list_all is_catalog_record (leaf_records (node_of bytes)) then with_age true (leaf_records (node_of bytes)) else []

abbrev pub stray_records_at : Blocks → Mdb → FileBlocks → ℕ → List LeafRecord
stray_records_at blocks mdb file k = if is_node_block mdb file k then [] else stray_records (blocks k)

-- of the blocks from block 3 on that are no node of the file
unfoldable pub all_stray_records : ℕ → Blocks → Mdb → FileBlocks → List LeafRecord
all_stray_records total blocks mdb file = flat_map (stray_records_at blocks mdb file) (range_with_len 3 (total - 3))

-- ---- the records

-- how many nodes of the file are there
abbrev pub nodes_there : Mdb → FileBlocks → ℕ
nodes_there mdb file = count_by is_some file * blocks_each mdb

-- they have fewer bytes than the file's size says, or none of these is a record: then other blocks are looked at as well
unfoldable pub is_lacking : Mdb → FileBlocks → List FoundRecord → Bool
is_lacking mdb file own = nat_lt (512 * nodes_there mdb file) mdb.catalog_file_size || (length own == 0)

abbrev pub with_strays : ℕ → Blocks → Mdb → FileBlocks → List FoundRecord → List FoundRecord
with_strays total blocks mdb file own = if is_lacking mdb file own then own ++ found_in_leaves (all_stray_records total blocks mdb file) else own

-- of the file's own leaves
abbrev pub own_records : Blocks → Mdb → FileBlocks → List FoundRecord
own_records blocks mdb file = found_in_leaves (all_leaf_records (nodes_of blocks mdb file))

-- of a catalog that does not pass its check
unfoldable pub scattered_records : ℕ → Blocks → Mdb → FileBlocks → List FoundRecord
scattered_records total blocks mdb file = with_strays total blocks mdb file (own_records blocks mdb file)

-- the check of the catalog tree finds no fault, where its file has these extents and these are its nodes
unfoldable pub is_catalog_tree_right : Mdb → List Extent → Store → Bool
is_catalog_tree_right mdb extents nodes = is_none (catalog_fault (has_counts cat_keys nodes) mdb extents nodes)

-- the nodes of the catalog file as far as its size goes, which are all that its check looks at
abbrev pub catalog_nodes : Blocks → Mdb → FileBlocks → Store
catalog_nodes blocks mdb file = first_nodes blocks mdb file (node_count mdb.catalog_file_size)

-- and each record is a folder's or a file's under a name, or a thread's under an empty one
unfoldable pub is_catalog_right : Mdb → List Extent → Store → Bool
is_catalog_right mdb extents nodes = is_catalog_tree_right mdb extents nodes && is_none (record_fault (catalog_of nodes))

-- where the catalog passes its check its records in order, else those of all leaves
unfoldable pub catalog_records : ℕ → Blocks → Mdb → List Extent → FileBlocks → List FoundRecord
catalog_records total blocks mdb extents file =
    if is_catalog_tree_right mdb extents (catalog_nodes blocks mdb file) then found_of (catalog_of (catalog_nodes blocks mdb file))
    else scattered_records total blocks mdb file

-- other blocks than the file's are looked at: it does not pass its check, and is lacking
unfoldable pub looks_elsewhere : Blocks → Mdb → List Extent → FileBlocks → Bool
looks_elsewhere blocks mdb extents file =
    not (is_catalog_tree_right mdb extents (catalog_nodes blocks mdb file)) && is_lacking mdb file (own_records blocks mdb file)
