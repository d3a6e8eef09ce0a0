-- The blocks of a tree's file, and its nodes.
use Rattle.std.specs.Prelude.{◌≡◌, ℕ, ◌+◌, ◌*◌, ◌/◌, ◌%◌, Bool, true, false, ◌&&◌, ◌==◌, not, if◌then◌else◌, List, [], ◌∷◌, ◌++◌, map, length, replicate, slice_index_or, Option, Some, None}
use Rattle.std.specs.List.{range_with_len}
use Rattle.hfs_fields.specs.declared.mdb.Mdb.{Mdb}
use Rattle.hfs_fields.specs.declared.extent.Extent.{Extent}
use Rattle.hfs_btree.specs.Tree.{Store}
use Rattle.hfs_space.specs.Extents.{extent_blocks}
use Rattle.hfs_space.specs.Forks.{blocks_each}
use Rattle.hfs_check.specs.Parts.{Blocks}
use Rattle.hfs_remains.specs.Allocation.{start_of, is_there}

-- the allocation blocks of a file in order, none in the place of each that is missing
abbrev pub FileBlocks : Type 0
FileBlocks = List (Option ℕ)

-- of these blocks, those that are there; one that is named again is missing from then on
abbrev pub first_there : (ℕ → Bool) → List ℕ → FileBlocks
first_there there [] = []
first_there there (b ∷ bs) = if there b then Some b ∷ first_there (λ k. there k && not (k == b)) bs else None ∷ first_there there bs

-- the blocks of a tree's file with these extents
unfoldable pub file_blocks : ℕ → Mdb → List Extent → FileBlocks
file_blocks total mdb extents = first_there (is_there total mdb) (extent_blocks extents)

-- the i-th 512 bytes of a block; of a missing one zeros, which decode as no node
abbrev pub piece_of : Blocks → Mdb → Option ℕ → ℕ → List ℕ
piece_of blocks mdb None i = replicate 512 0
piece_of blocks mdb (Some b) i = blocks (start_of mdb b + i)

-- node n of a tree's file with these blocks
unfoldable pub node_at : Blocks → Mdb → FileBlocks → ℕ → List ℕ
node_at blocks mdb file n = piece_of blocks mdb (slice_index_or file (n / blocks_each mdb) None) (n % blocks_each mdb)

-- its first nodes, so many
abbrev pub first_nodes : Blocks → Mdb → FileBlocks → ℕ → Store
first_nodes blocks mdb file count = map (node_at blocks mdb file) (range_with_len 0 count)

-- how many nodes it has
abbrev pub node_total : Mdb → FileBlocks → ℕ
node_total mdb file = length file * blocks_each mdb

-- all its nodes
abbrev pub nodes_of : Blocks → Mdb → FileBlocks → Store
nodes_of blocks mdb file = first_nodes blocks mdb file (node_total mdb file)

-- ---- marks

-- the mark of a block, false where there is none
abbrev pub mark_of : List Bool → ℕ → Bool
mark_of marks b = slice_index_or marks b false

-- each block of the file that isn't missing is there
abbrev pub AreThere : ℕ → Mdb → FileBlocks → Type 0
AreThere total mdb file = (i b : ℕ) → slice_index_or file i None ≡ Some b → is_there total mdb b ≡ true

-- the old blocks of a file are followed by those of an extent's that are there, as the marks give them, and the marks give those after
abbrev pub TakesBlocks : List ℕ → List Bool → List Bool → FileBlocks → FileBlocks → Type 0
TakesBlocks bs old_marks new_marks old new =
    (behind : List ℕ) → new ++ first_there (mark_of new_marks) behind ≡ old ++ first_there (mark_of old_marks) (bs ++ behind)

-- the block where it is marked, and its mark goes
abbrev pub TakesBlock : ℕ → List Bool → List Bool → Option ℕ → Type 0
TakesBlock b old_marks new_marks taken =
    (behind : List ℕ) → taken ∷ first_there (mark_of new_marks) behind ≡ first_there (mark_of old_marks) (b ∷ behind)

-- the marks say which blocks are there
abbrev pub MarkThere : ℕ → Mdb → List Bool → Type 0
MarkThere total mdb marks = (b : ℕ) → mark_of marks b ≡ is_there total mdb b
