-- A fork to which blocks are added.
use Rattle.std.specs.Prelude.{◌≡◌, ℕ, ◌+◌, ◌-◌, ◌/◌, ◌<◌, ◌≤◌, List, ◌++◌, length, Result, MatchResult}
use Rattle.hfs_fields.specs.declared.extent.Extent.{Extent}
use Rattle.hfs_btree.specs.Tree.{Store}
use Rattle.hfs_btree.specs.Header.{depth_of, free_nodes}
use Rattle.hfs_space.specs.Extents.{block_total, extent_blocks, fork_extents}
use Rattle.hfs_space.specs.TreeKeys.{overflow_of}
use Rattle.hfs_record_edits.specs.Need.{extents_need, HasNodesFor}
use Rattle.hfs_record_edits.specs.Lengthened.{used_places, lengthened}
use Rattle.hfs_record_edits.specs.Whole.{HasExtents, EditsFork}
use Rattle.hfs_record_edits.specs.declared.growing.NodesWanted.{NodesWanted}

-- the extents to which these pieces are added
abbrev pub grown : List Extent → List Extent → List Extent
grown extents pieces = lengthened extents (used_places extents) pieces

-- how many records of three they need more than before
abbrev pub records_coming : List Extent → List Extent → ℕ
records_coming extents pieces = (length (grown extents pieces) - length extents) / 3

-- with the pieces a fork has no more blocks than a key can count
abbrev pub HasRoomFor : List Extent → List Extent → Type 0
HasRoomFor extents pieces = block_total extents + block_total pieces ≤ 65535

-- The fork's extents are those of before, and `now` are the first three of them. Its blocks are those that it had, and then those that
-- were added. There were free nodes enough for the new records.
pub record HasGrown (file fork : ℕ) (first now pieces : List Extent) (old new : Store) : Type 0 where
  pub edits : EditsFork file fork old new
  pub has : HasExtents file fork now (grown (fork_extents (overflow_of old) file fork first) pieces) new
  pub blocks : extent_blocks (fork_extents (overflow_of new) file fork now) ≡ extent_blocks (fork_extents (overflow_of old) file fork first) ++ extent_blocks pieces
  pub enough : HasNodesFor (records_coming (fork_extents (overflow_of old) file fork first) pieces) old

-- fewer nodes are free than so many records may need, and these are the numbers
pub record IsWantOfNodes (coming : ℕ) (nodes : Store) (want : NodesWanted) : Type 0 where
  pub free : want.free ≡ free_nodes nodes
  pub depth : want.depth ≡ depth_of nodes
  pub few : free_nodes nodes < extents_need coming (depth_of nodes) (length (overflow_of nodes))

-- the pieces were added; or, exactly where the tree has too few free nodes, these
abbrev pub GivesGrown : ℕ → ℕ → List Extent → List Extent → Store → Store → Result (List Extent) NodesWanted → Type 0
GivesGrown file fork first pieces old new answer =
    MatchResult answer
    (λ now. HasGrown file fork first now pieces old new)
    (IsWantOfNodes (records_coming (fork_extents (overflow_of old) file fork first) pieces) old)
