-- The counted numbers of a volume, each with its place in what a repair reports.
use Rattle.std.specs.Prelude.{◌≡◌, ℕ, suc, ◌+◌, ◌*◌, ◌^◌, Bool, not, ◌&&◌, ◌==◌, nat_lt, if◌then◌else◌, List, [], ◌∷◌, ◌++◌, filter, length, slice_index, slice_index_or}
use Rattle.std.specs.List.{flat_map}
use Rattle.hfs_fields.specs.Keys.{cat_body_start, cat_body_of}
use Rattle.hfs_fields.specs.Records.{is_dir, dir_record_of}
use Rattle.hfs_fields.specs.declared.extent.Extent.{Extent}
use Rattle.hfs_fields.specs.declared.mdb.Mdb.{Mdb}
use Rattle.hfs_btree.specs.declared.key.Key.{Ghosts}
use Rattle.hfs_btree.specs.Node.{node_of, offset_of}
use Rattle.hfs_btree.specs.Tree.{Store, records_of, records_in}
use Rattle.hfs_btree.specs.Header.{header_in, free_nodes, leaves, tree_content}
use Rattle.hfs_blocks.specs.Blocks.{run_of, nodes_in}
use Rattle.hfs_blocks.specs.declared.run.Run.{Run}
use Rattle.hfs_space.specs.Bitmap.{clear_count}
use Rattle.hfs_space.specs.ForkLaws.{block_numbers}
use Rattle.hfs_space.specs.TreeKeys.{ext_keys}
use Rattle.hfs_catalog.specs.Records.{Catalog, valence_of}
use Rattle.hfs_catalog.specs.Sound.{counts_of}
use Rattle.hfs_catalog.specs.Tree.{cat_keys}
use Rattle.hfs_check.specs.Parts.{Blocks, mdb_in, extents_nodes, catalog_extents, catalog_nodes, catalog_in}
use Rattle.hfs_repair.specs.declared.fixed.FixPlace.{FixPlace}
use Rattle.hfs_repair.specs.declared.fixed.FixPlace.TheVariants.{RootFiles, FreeBlocks, RootFolders, Files, Folders, ExtentsRecords, ExtentsFree, CatalogRecords, CatalogFree, Valence}
use Rattle.hfs_repair.specs.Fields.{PlacedNumber}

-- a number of two bytes, or of four: which one, as the volume has it, as it is counted, and where it begins in the image
abbrev pub two_bytes : FixPlace → ℕ → ℕ → ℕ → PlacedNumber
two_bytes place was now at = (place, record { was = was; now = now; at = at; width = 2 })

abbrev pub four_bytes : FixPlace → ℕ → ℕ → ℕ → PlacedNumber
four_bytes place was now at = (place, record { was = was; now = now; at = at; width = 4 })

-- the number isn't as it is counted, and its field can hold the counted one
unfoldable pub is_wrong : PlacedNumber → Bool
is_wrong n = not (n.1.was == n.1.now) && nat_lt n.1.now (256 ^ n.1.width)

-- to a row of numbers those of these are added that are wrong
abbrev pub AddsWrong : List PlacedNumber → List PlacedNumber → List PlacedNumber → Type 0
AddsWrong old new placed = new ≡ old ++ filter is_wrong placed

-- ---- the master directory block of a volume with this catalog

-- drNmFls, drFreeBks, drNmRtDirs, drFilCnt, drDirCnt
unfoldable pub placed_in_mdb : Blocks → Mdb → Catalog → List PlacedNumber
placed_in_mdb blocks mdb catalog =
    two_bytes RootFiles mdb.root_files (counts_of catalog).root_files 1036
    ∷ two_bytes FreeBlocks mdb.free_blocks (clear_count blocks mdb.bitmap_start mdb.allocation_blocks) 1058
    ∷ two_bytes RootFolders mdb.root_folders (counts_of catalog).root_folders 1106
    ∷ four_bytes Files mdb.files (counts_of catalog).files 1108
    ∷ four_bytes Folders mdb.folders (counts_of catalog).folders 1112
    ∷ []

-- ---- a tree's header record, where the tree's nodes lie in the blocks of these numbers

-- where record k of node n begins in the image
abbrev pub record_start : List ℕ → Store → ℕ → ℕ → ℕ
record_start numbers nodes n k = 512 * slice_index numbers n + offset_of (slice_index_or nodes n []) k

-- bthNRecs, bthFree
unfoldable pub placed_in_header : {K : Type 0} → Ghosts K → FixPlace → FixPlace → List ℕ → Store → List PlacedNumber
placed_in_header g records free numbers nodes =
    four_bytes records (header_in nodes).records (length (tree_content g nodes)) (record_start numbers nodes 0 0 + 6)
    ∷ four_bytes free (header_in nodes).free_nodes (free_nodes nodes) (record_start numbers nodes 0 0 + 26)
    ∷ []

-- of the tree in the blocks of these runs
abbrev pub placed_in_head : {K : Type 0} → Ghosts K → FixPlace → FixPlace → Blocks → List Run → List PlacedNumber
placed_in_head g records free blocks runs = placed_in_header g records free (flat_map run_of runs) (nodes_in blocks runs)

-- ---- the folders' records, where each folder has so many children

-- of the folder's record that begins at this place of the image
abbrev pub placed_valence : (ℕ → ℕ) → ℕ → List ℕ → PlacedNumber
placed_valence children start entry =
    two_bytes (Valence (dir_record_of (cat_body_of entry)).id) (dir_record_of (cat_body_of entry)).valence (children (dir_record_of (cat_body_of entry)).id)
    (start + cat_body_start entry + 4)

-- of a leaf's records, from record k on
abbrev pub placed_from : (ℕ → ℕ) → (ℕ → ℕ) → ℕ → List (List ℕ) → List PlacedNumber
placed_from children start k [] = []
placed_from children start k (entry ∷ entries) =
    if is_dir (cat_body_of entry) then placed_valence children (start k) entry ∷ placed_from children start (suc k) entries else placed_from children start (suc k) entries

-- of the records of a node that begins at this place of the image
abbrev pub placed_in_node : (ℕ → ℕ) → ℕ → List ℕ → List PlacedNumber
placed_in_node children start bytes = placed_from children (λ k. start + offset_of bytes k) 0 (records_of (node_of bytes))

-- of a leaf
abbrev pub placed_in_leaf : (ℕ → ℕ) → List ℕ → Store → ℕ → List PlacedNumber
placed_in_leaf children numbers nodes n = placed_from children (record_start numbers nodes n) 0 (records_in nodes n)

unfoldable pub placed_valences : (ℕ → ℕ) → List ℕ → Store → List PlacedNumber
placed_valences children numbers nodes = flat_map (placed_in_leaf children numbers nodes) (leaves cat_keys nodes)

-- of the catalog in the blocks of these runs
abbrev pub placed_in_runs : (ℕ → ℕ) → Blocks → List Run → List PlacedNumber
placed_in_runs children blocks runs = placed_valences children (flat_map run_of runs) (nodes_in blocks runs)

-- ---- all of them

-- of a volume with this master directory block, whose extents tree has these nodes, and whose catalog has this file, these nodes and
-- these records
abbrev pub all_placed : Blocks → Mdb → Store → List Extent → Store → Catalog → List PlacedNumber
all_placed blocks mdb extents file nodes catalog =
    placed_in_mdb blocks mdb catalog
    ++ (placed_in_header ext_keys ExtentsRecords ExtentsFree (block_numbers mdb mdb.extents_file) extents
    ++ (placed_in_header cat_keys CatalogRecords CatalogFree (block_numbers mdb file) nodes
    ++ placed_valences (valence_of catalog) (block_numbers mdb file) nodes))

unfoldable pub placed_in : Blocks → List PlacedNumber
placed_in blocks = all_placed blocks (mdb_in blocks) (extents_nodes blocks) (catalog_extents blocks) (catalog_nodes blocks) (catalog_in blocks)
