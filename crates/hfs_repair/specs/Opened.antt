-- A tree that is right except for the two numbers of its header record, and where it lies.
use Rattle.std.specs.Prelude.{◌≡◌, ℕ, ◌*◌, ◌≤◌, Bool, true, false, ◌&&◌, List, Option, None, MatchOption, length}
use Rattle.std.specs.Option.{is_none}
use Rattle.std.proofs.Common.{Vec, Global}
use Rattle.hfs_fields.specs.declared.mdb.Mdb.{Mdb}
use Rattle.hfs_fields.specs.declared.extent.Extent.{Extent}
use Rattle.hfs_btree.specs.declared.key.Key.{Ghosts}
use Rattle.hfs_btree.specs.Tree.{Store}
use Rattle.hfs_btree.specs.Header.{header_in, free_nodes, tree_content}
use Rattle.hfs_btree.specs.Sound.{HasStructure}
use Rattle.hfs_blocks.specs.Blocks.{nodes_in}
use Rattle.hfs_btree_checks.specs.Shape.{structure_fault}
use Rattle.hfs_btree_checks.specs.Order.{key_fault, order_fault}
use Rattle.hfs_space.specs.Extents.{fork_extents}
use Rattle.hfs_space.specs.Faults.{is_tree_file}
use Rattle.hfs_space.specs.TreeFiles.{tree_nodes, tree_blocks}
use Rattle.hfs_space.specs.TreeKeys.{ext_keys, overflow_of}
use Rattle.hfs_catalog.specs.Records.{Catalog}
use Rattle.hfs_catalog.specs.Tree.{cat_keys, catalog_of}
use Rattle.hfs_check.specs.Answers.{listed_fault}
use Rattle.hfs_check.specs.Faults.{is_fork_key}
use Rattle.hfs_check.specs.Parts.{Blocks}
use Rattle.hfs_check.specs.Trees.{LieIn}
use Rattle.hfs_check.specs.declared.mount_fault.MountFault.{MountFault}
use Rattle.hfs_repair.specs.declared.right_counts.RightCounts.{RightCounts}
use Rattle.hfs_repair.specs.declared.tree_file.TreeFile.{TreeFile}
use Rattle.hfs_repair.specs.Recounted.{with_head, IsRecountOf}

-- the tree in these nodes has its shape except for two counts, which are these, and with the other header node they are right
pub record AreRightCounts {K : Type 0} (g : Ghosts K) (size : ℕ) (nodes : Store) (right : RightCounts) : Type 0 where
  pub bytes : size ≤ 512 * length nodes
  pub fault : structure_fault g size nodes ≡ None
  pub structure : HasStructure g nodes
  pub header : right.header ≡ header_in nodes
  pub records : right.records ≡ length (tree_content g nodes)
  pub small : right.records ≤ 4294967295
  pub free : right.free_nodes ≡ free_nodes nodes
  pub recount : IsRecountOf g nodes (with_head nodes right.head)

-- the file of a tree, of so many bytes in these extents, lies in the volume, and the tree has its shape except for two counts
abbrev pub is_tree_right : {K : Type 0} → Ghosts K → Blocks → Mdb → List Extent → ℕ → Bool
is_tree_right g blocks mdb file size = is_tree_file mdb file size && is_none (structure_fault g size (tree_nodes blocks mdb file size))

-- this is that tree
pub record IsTreeIn {K : Type 0} (g : Ghosts K) (total : ℕ) (blocks : Blocks) (mdb : Mdb) (file : List Extent) (size : ℕ) (tree : TreeFile) : Type 0 where
  pub lies : is_tree_file mdb file size ≡ true
  pub runs : LieIn total blocks tree.runs.items (tree_blocks mdb file size) (tree_nodes blocks mdb file size)
  pub counts : AreRightCounts g size (tree_nodes blocks mdb file size) tree.counts

-- right is where no fault was found
abbrev pub IsRight : Option MountFault → Bool → Type 0
IsRight found right = right ≡ is_none found

-- what is said about a tree's two numbers: these are right, or none where the tree hasn't its shape except for them
abbrev pub IsCountsAnswer : {K : Type 0} → Ghosts K → ℕ → Store → Option RightCounts → Type 0
IsCountsAnswer g size nodes found = MatchOption found (is_none (structure_fault g size nodes) ≡ false) (AreRightCounts g size nodes)

-- these are right of the tree in some file's nodes
abbrev pub AreCountsOf : {K : Type 0} → Ghosts K → Store → RightCounts → Type 0
AreCountsOf g nodes right = (size : ℕ) × AreRightCounts g size nodes right

-- so they are of the tree in the blocks of its runs
abbrev pub HasRightCounts : {K : Type 0} → Ghosts K → Blocks → TreeFile → Type 0
HasRightCounts g blocks tree = AreCountsOf g (nodes_in blocks tree.runs.items) tree.counts

-- a header node that counts right, in the place of the tree's own
abbrev pub IsRightHead : {K : Type 0} → Ghosts K → Store → List ℕ → Type 0
IsRightHead g nodes head = IsRecountOf g nodes (with_head nodes head)

-- what is said about a tree's file: this is the tree, or none where it isn't right
abbrev pub IsTreeAnswer : {K : Type 0} → Ghosts K → ℕ → Blocks → Mdb → List Extent → ℕ → Option TreeFile → Type 0
IsTreeAnswer g total blocks mdb file size found = MatchOption found (is_tree_right g blocks mdb file size ≡ false) (IsTreeIn g total blocks mdb file size)

-- the forks in the keys of an extents tree are right, and it is in order
abbrev pub are_extents_in_order : Store → Bool
are_extents_in_order nodes = is_none (key_fault ext_keys nodes is_fork_key) && is_none (order_fault ext_keys nodes)

-- the extents tree of a volume with this master directory block
abbrev pub extents_of : Blocks → Mdb → Store
extents_of blocks mdb = tree_nodes blocks mdb mdb.extents_file mdb.extents_file_size

-- the extents tree is right except for its two counts
unfoldable pub is_extents_right : Blocks → Mdb → Bool
is_extents_right blocks mdb = is_tree_right ext_keys blocks mdb mdb.extents_file mdb.extents_file_size && are_extents_in_order (extents_of blocks mdb)

-- this is the extents tree
abbrev pub IsExtentsTree : ℕ → Blocks → Mdb → TreeFile → Type 0
IsExtentsTree total blocks mdb tree = IsTreeIn ext_keys total blocks mdb mdb.extents_file mdb.extents_file_size tree

-- what is said about the extents tree: it is right except for its two counts, and this is it; or none
abbrev pub IsExtentsAnswer : ℕ → Blocks → Mdb → Option TreeFile → Type 0
IsExtentsAnswer total blocks mdb found =
    MatchOption found (is_extents_right blocks mdb ≡ false) (λ tree. (is_extents_right blocks mdb ≡ true) × IsExtentsTree total blocks mdb tree)

-- the extents of the catalog file, where these are the nodes of the extents tree
abbrev pub catalog_extents_in : Store → Mdb → List Extent
catalog_extents_in nodes mdb = fork_extents (overflow_of nodes) 4 0 mdb.catalog_file

-- the extents of the catalog file
unfoldable pub catalog_file_of : Blocks → Mdb → List Extent
catalog_file_of blocks mdb = fork_extents (overflow_of (extents_of blocks mdb)) 4 0 mdb.catalog_file

-- what is said about the catalog file: these are its extents, after an extents tree that is right except for its two counts, or none
abbrev pub FindsCatalogFile : Blocks → Mdb → Option (Vec Extent Global) → Type 0
FindsCatalogFile blocks mdb found =
    MatchOption found (is_extents_right blocks mdb ≡ false) (λ file. (is_extents_right blocks mdb ≡ true) × (file.items ≡ catalog_file_of blocks mdb))

-- the catalog tree has its shape except for its two counts
unfoldable pub is_catalog_right : Blocks → Mdb → Bool
is_catalog_right blocks mdb = is_tree_right cat_keys blocks mdb (catalog_file_of blocks mdb) mdb.catalog_file_size

-- this is the catalog tree
abbrev pub IsCatalogTree : ℕ → Blocks → Mdb → TreeFile → Type 0
IsCatalogTree total blocks mdb tree = IsTreeIn cat_keys total blocks mdb (catalog_file_of blocks mdb) mdb.catalog_file_size tree

-- what is said about the catalog tree
abbrev pub IsCatalogAnswer : ℕ → Blocks → Mdb → Option TreeFile → Type 0
IsCatalogAnswer total blocks mdb found =
    MatchOption found (is_catalog_right blocks mdb ≡ false) (λ tree. (is_catalog_right blocks mdb ≡ true) × IsCatalogTree total blocks mdb tree)

-- its nodes
abbrev pub catalog_nodes_of : Blocks → Mdb → Store
catalog_nodes_of blocks mdb = tree_nodes blocks mdb (catalog_file_of blocks mdb) mdb.catalog_file_size

-- its records
abbrev pub catalog_in_of : Blocks → Mdb → Catalog
catalog_in_of blocks mdb = catalog_of (catalog_nodes_of blocks mdb)

-- the records are right: records, IDs, names, and order, parents and threads
unfoldable pub are_records_right : Blocks → Mdb → Bool
are_records_right blocks mdb = is_none (listed_fault mdb.next_id (catalog_nodes_of blocks mdb) (catalog_in_of blocks mdb))
