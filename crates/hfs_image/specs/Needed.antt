-- The blocks of a volume that its checks, its report and its items are read from; the bytes of forks are in others, and of a
-- tree's file those that its map doesn't mark. Each part is found by those before it, and nothing is read behind a part that is
-- wrong.
use Rattle.std.specs.Prelude.{◌≡◌, ℕ, ◌-◌, Bool, ◌&&◌, List, ◌∷◌, ◌++◌}
use Rattle.std.specs.Option.{is_none}
use Rattle.hfs_fields.specs.Each.{Each}
use Rattle.hfs_space.specs.Faults.{is_tree_file}
use Rattle.hfs_space.specs.TreeKeys.{ext_keys}
use Rattle.hfs_catalog.specs.Tree.{cat_keys}
use Rattle.hfs_check.specs.Agree.{bitmap_blocks}
use Rattle.hfs_check.specs.Answers.{extents_check_fault}
use Rattle.hfs_check.specs.Faults.{mdb_fault}
use Rattle.hfs_check.specs.Parts.{Blocks, mdb_in, extents_blocks, extents_nodes, catalog_extents, catalog_blocks, catalog_nodes}
use Rattle.hfs_image.specs.Marked.{where_right, needed_of_tree}

-- ---- what is right, so that the next part can be found

abbrev pub is_mdb_right : ℕ → Blocks → Bool
is_mdb_right total blocks = is_none (mdb_fault total (mdb_in blocks))

-- the extents file lies in the volume and has room for its nodes
abbrev pub has_extents_file : Blocks → Bool
has_extents_file blocks = is_tree_file (mdb_in blocks) (mdb_in blocks).extents_file (mdb_in blocks).extents_file_size

-- and its tree is right, so that overflow extents can be read in it
abbrev pub is_extents_tree_right : Blocks → Bool
is_extents_tree_right blocks = is_none (extents_check_fault (mdb_in blocks) blocks)

-- the catalog file, with its overflow extents, lies in the volume and has room for its nodes
abbrev pub has_catalog_file : Blocks → Bool
has_catalog_file blocks = is_tree_file (mdb_in blocks) (catalog_extents blocks) (mdb_in blocks).catalog_file_size

-- ---- the blocks, by their numbers

-- those of the extents tree
abbrev pub needed_of_extents : Blocks → List ℕ
needed_of_extents blocks = needed_of_tree ext_keys (mdb_in blocks).extents_file_size (extents_nodes blocks) (extents_blocks blocks)

-- behind an extents tree that is right, those of the catalog tree
unfoldable pub needed_of_catalog : Blocks → List ℕ
needed_of_catalog blocks =
    where_right (is_extents_tree_right blocks && has_catalog_file blocks)
    (needed_of_tree cat_keys (mdb_in blocks).catalog_file_size (catalog_nodes blocks) (catalog_blocks blocks))

-- those of both trees
unfoldable pub needed_of_trees : Blocks → List ℕ
needed_of_trees blocks = where_right (has_extents_file blocks) (needed_of_extents blocks ++ needed_of_catalog blocks)

-- of a volume of so many blocks: the master directory block, its copy in the last block but one, the bitmap, and both trees
unfoldable pub needed_blocks : ℕ → Blocks → List ℕ
needed_blocks total blocks =
    2 ∷ where_right (is_mdb_right total blocks) ((total - 2) ∷ bitmap_blocks (mdb_in blocks) ++ needed_of_trees blocks)

-- ---- what two volumes have in common

-- each of these blocks is the same in both
abbrev pub AgreeOn : List ℕ → Blocks → Blocks → Type 0
AgreeOn numbers old new = Each (λ n. new n ≡ old n) numbers

-- each needed block of a volume of so many blocks is the same in the other
abbrev pub AgreeOnNeeded : ℕ → Blocks → Blocks → Type 0
AgreeOnNeeded total old new = AgreeOn (needed_blocks total old) old new
