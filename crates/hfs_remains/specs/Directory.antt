-- The block that is taken for an image's directory, where mounting refuses the image: a master directory block in any of its blocks.
use Rattle.std.specs.Prelude.{ℕ, zero, suc, ◌-◌, ◌<◌, ◌≤◌, Bool, true, false, ◌&&◌, ◌==◌, nat_lt, nat_le, if◌then◌else◌, List, [], ◌∷◌, ◌++◌, find, length, Option, Some, None, Result, Ok, Err}
use Rattle.std.specs.Option.{option_or, is_none}
use Rattle.hfs_fields.specs.Mdb.{mdb_in_block}
use Rattle.hfs_fields.specs.declared.mdb.Mdb.{Mdb}
use Rattle.hfs_fields.specs.declared.extent.Extent.{Extent}
use Rattle.hfs_btree.specs.declared.fault.NodeFault.{NodeFault}
use Rattle.hfs_btree.specs.declared.node.Node.{Node}
use Rattle.hfs_btree.specs.Node.{node_of}
use Rattle.hfs_blocks.specs.Blocks.{block_at, block_count}
use Rattle.hfs_btree_checks.specs.Shape.{is_header_kind}
use Rattle.hfs_check.specs.Parts.{Blocks}
use Rattle.hfs_check.specs.Faults.{is_block_size, length_fault}
use Rattle.hfs_remains.specs.Allocation.{start_of, is_there}
use Rattle.hfs_remains.specs.declared.directory.Beginning.{Beginning}
use Rattle.hfs_remains.specs.declared.directory.Beginning.TheVariants.{Both, Catalog, Neither}

-- the fields of a block, as a master directory block has them
abbrev pub mdb_at : Blocks → ℕ → Mdb
mdb_at blocks n = mdb_in_block (blocks n)

-- they serve if they say what an allocation block is, and that there is one
abbrev pub will_do : Mdb → Bool
will_do mdb = (mdb.signature == 0x4244) && nat_le 1 mdb.allocation_blocks && is_block_size mdb

-- ---- where a tree begins

-- the first extent that has a block
abbrev pub first_extent : List Extent → Option Extent
first_extent extents = find (λ e. nat_lt 0 e.count) extents

abbrev pub is_header : Result Node NodeFault → Bool
is_header (Ok node) = is_header_kind node.kind
is_header (Err fault) = false

-- its first allocation block is there, and decodes in its first 512 bytes as a header node
abbrev pub begins_with : ℕ → Blocks → Mdb → Option Extent → Bool
begins_with total blocks mdb None = false
begins_with total blocks mdb (Some e) = is_there total mdb e.first && is_header (node_of (blocks (start_of mdb e.first)))

-- the block in which this extent begins, where that is there
abbrev pub beginning_in : ℕ → Mdb → Option Extent → Option ℕ
beginning_in total mdb None = None
beginning_in total mdb (Some e) = if is_there total mdb e.first then Some (start_of mdb e.first) else None

-- the block that says whether a tree begins whose file has these extents, if the fields serve
abbrev pub beginning_of : ℕ → Mdb → List Extent → Option ℕ
beginning_of total mdb extents = if will_do mdb then beginning_in total mdb (first_extent extents) else None

-- a tree whose file has these three extents begins
abbrev pub tree_begins : ℕ → Blocks → Mdb → List Extent → Bool
tree_begins total blocks mdb extents = begins_with total blocks mdb (first_extent extents)

-- ---- the choice

-- the trees begin that are asked for
abbrev pub has_beginning : ℕ → Blocks → Mdb → Beginning → Bool
has_beginning total blocks mdb Both = tree_begins total blocks mdb mdb.extents_file && tree_begins total blocks mdb mdb.catalog_file
has_beginning total blocks mdb Catalog = tree_begins total blocks mdb mdb.catalog_file
has_beginning total blocks mdb Neither = true

-- block n will do, and these trees begin
unfoldable pub serves : ℕ → Blocks → Beginning → ℕ → Bool
serves total blocks beginning n = will_do (mdb_at blocks n) && has_beginning total blocks (mdb_at blocks n) beginning

-- the numbers below n, from the highest down
abbrev pub downward : ℕ → List ℕ
downward zero = []
downward (suc n) = n ∷ downward n

-- the two blocks in which a directory belongs: block 2, and the last but one
abbrev pub usual_places : ℕ → List ℕ
usual_places total = 2 ∷ (total - 2) ∷ []

-- the first of them with both trees
abbrev pub usual_directory : ℕ → Blocks → Option ℕ
usual_directory total blocks = find (serves total blocks Both) (usual_places total)

-- these, and then all others, from the last to the first
abbrev pub all_places : ℕ → List ℕ
all_places total = usual_places total ++ downward total

-- the first of the usual places with both trees, or else the first of all with a catalog, or else the first that will do
unfoldable pub directory_in : ℕ → Blocks → Option ℕ
directory_in total blocks =
    option_or (usual_directory total blocks)
    (option_or (find (serves total blocks Catalog) (all_places total)) (find (serves total blocks Neither) (all_places total)))

-- of an image: none where its length is not that of a volume
unfoldable pub directory_of : List ℕ → Option ℕ
directory_of image = if is_none (length_fault (length image)) then directory_in (block_count image) (block_at image) else None

-- block n is one of so many, and says what an allocation block is
abbrev pub IsDirectory : ℕ → Blocks → ℕ → Type 0
IsDirectory total blocks n = (n < total) × (512 ≤ (mdb_at blocks n).allocation_block_size)
