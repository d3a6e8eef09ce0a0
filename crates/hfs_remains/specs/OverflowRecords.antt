-- The records of the extents tree, and the extents of a fork by them.
use Rattle.std.specs.Prelude.{◌≡◌, ℕ, zero, suc, ◌+◌, Bool, ◌&&◌, ◌==◌, nat_lt, if◌then◌else◌, List, [], ◌∷◌, ◌++◌, find, Option, None, slice_index_or, ◌<◌}
use Rattle.std.specs.List.{flat_map, position_from}
use Rattle.std.specs.Option.{is_none, option_map_or, option_or}
use Rattle.hfs_fields.specs.declared.mdb.Mdb.{Mdb}
use Rattle.hfs_fields.specs.declared.extent.Extent.{Extent}
use Rattle.hfs_fields.specs.declared.key.ExtKey.{ExtKey}
use Rattle.hfs_fields.specs.Keys.{is_ext_leaf}
use Rattle.hfs_btree.specs.Tree.{Store, pair_of}
use Rattle.hfs_btree_checks.specs.Shape.{has_counts}
use Rattle.hfs_catalog.specs.Indexes.{only_if}
use Rattle.hfs_space.specs.Extents.{Overflow, block_total, record_extents}
use Rattle.hfs_space.specs.TreeFiles.{node_count}
use Rattle.hfs_space.specs.TreeKeys.{ext_keys, overflow_of}
use Rattle.hfs_check.specs.Parts.{Blocks}
use Rattle.hfs_check.specs.Faults.{extents_fault}
use Rattle.hfs_remains.specs.TreeFiles.{FileBlocks, first_nodes, nodes_of}
use Rattle.hfs_remains.specs.LeafRecords.{all_leaf_records}
use Rattle.hfs_remains.specs.declared.leaf_records.LeafRecord.{LeafRecord}

-- ---- the records

-- a leaf's record as one of the extents tree, where it has the form of one
abbrev pub overflow_in : List ℕ → Overflow
overflow_in bytes = if is_ext_leaf bytes then pair_of ext_keys bytes ∷ [] else []

-- those of leaves, in order
abbrev pub overflow_in_leaves : List LeafRecord → Overflow
overflow_in_leaves leaves = flat_map (λ r. overflow_in r.bytes) leaves

-- the check of the extents tree finds no fault in nodes
unfoldable pub is_extents_tree_right : Mdb → Store → Bool
is_extents_tree_right mdb nodes = is_none (extents_fault (has_counts ext_keys nodes) mdb nodes)

-- the nodes of the extents file as far as its size goes, which are all that its check looks at
abbrev pub extents_nodes : Blocks → Mdb → FileBlocks → Store
extents_nodes blocks mdb file = first_nodes blocks mdb file (node_count mdb.extents_file_size)

-- where the tree passes its check its records in order, else those of all its leaves
unfoldable pub overflow_records : Blocks → Mdb → FileBlocks → Overflow
overflow_records blocks mdb file =
    if is_extents_tree_right mdb (extents_nodes blocks mdb file) then overflow_of (extents_nodes blocks mdb file)
    else overflow_in_leaves (all_leaf_records (nodes_of blocks mdb file))

-- ---- the extents of a fork

abbrev pub has_key : ℕ → ℕ → ℕ → ExtKey × List ℕ → Bool
has_key file fork block r = (r.0.file == file) && (r.0.fork == fork) && (r.0.block == block)

-- the first record with this key, whose number of a block has two bytes
abbrev pub record_at : Overflow → ℕ → ℕ → ℕ → Option (ExtKey × List ℕ)
record_at records file fork block = if nat_lt block 65536 then find (has_key file fork block) records else None

-- what goes on with a fork from this block of it on, as long as there is a record that has a block and the fork has fewer blocks than are
-- needed, in at most so many records
unfoldable pub further : Overflow → ℕ → ℕ → ℕ → ℕ → ℕ → List Extent
further records file fork wanted zero block = []
further records file fork wanted (suc most) block =
    if nat_lt block wanted then option_map_or (λ r. if block_total (record_extents r.1) == 0 then [] else record_extents r.1 ++ further records file fork wanted most (block + block_total (record_extents r.1))) (record_at records file fork block) []
    else []

-- the extents of a fork with these first ones, that needs so many blocks. It goes on in fewer records than there are numbers of two bytes.
unfoldable pub fork_extents : Overflow → ℕ → ℕ → ℕ → List Extent → List Extent
fork_extents records file fork wanted first = first ++ further records file fork wanted 65536 (block_total first)

-- of the catalog file, which is file 4 and goes on as long as there is a record
unfoldable pub catalog_extents : Overflow → Mdb → List Extent
catalog_extents records mdb = fork_extents records 4 0 65536 mdb.catalog_file

-- ---- a fork's records by their blocks

-- at each block the place of the first record with that key
abbrev pub TellsPlaces : Overflow → ℕ → ℕ → List (Option ℕ) → Type 0
TellsPlaces records file fork places = (block : ℕ) → block < 65536 → slice_index_or places block None ≡ position_from (has_key file fork block) 0 records

-- a record's place is noted at its block, where it is the first of this fork there
abbrev pub NotesPlace : ℕ → ℕ → ℕ → ExtKey × List ℕ → List (Option ℕ) → List (Option ℕ) → Type 0
NotesPlace file fork i r old new =
    (block : ℕ) → block < 65536 → slice_index_or new block None ≡ option_or (slice_index_or old block None) (only_if (has_key file fork block r) i)
