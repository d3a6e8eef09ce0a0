-- Reading the blocks of a tree's file.
use Rattle.std.specs.Prelude.{◌≡◌, ℕ, ◌+◌, ◌<◌, ◌≤◌, None, Some, slice_index_or}
use Rattle.hfs_fields.specs.declared.mdb.Mdb.{Mdb}
use Rattle.hfs_blocks.specs.Layers.{Numbered}
use Rattle.hfs_remains.specs.TreeFiles.{FileBlocks}
use Rattle.hfs_source.specs.Sparse.{HasEach}
use Rattle.hfs_remains_forks.specs.Needed.{blocks_of_place}

-- so many places of a file from place i on have blocks that follow each other, the first of which is b
abbrev pub LieBeside : FileBlocks → ℕ → ℕ → ℕ → Type 0
LieBeside file i b count = (k : ℕ) → k < count → slice_index_or file (i + k) None ≡ Some (b + k)

-- the blocks at each place from one up to another were read
abbrev pub HasPlaces : Numbered → Mdb → FileBlocks → ℕ → ℕ → Type 0
HasPlaces read mdb file from to = (k : ℕ) → from ≤ k → k < to → HasEach read (blocks_of_place mdb (slice_index_or file k None))
