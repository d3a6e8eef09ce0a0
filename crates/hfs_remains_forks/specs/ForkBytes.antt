-- The bytes that are taken of forks.
use Rattle.std.specs.Prelude.{ℕ, ◌*◌, if◌then◌else◌, List, ◌++◌, drop, replicate, take, Option, Some, None}
use Rattle.std.specs.List.{flat_map}
use Rattle.hfs_fields.specs.declared.mdb.Mdb.{Mdb}
use Rattle.hfs_space.specs.Extents.{Overflow}
use Rattle.hfs_remains.specs.Allocation.{start_of}
use Rattle.hfs_remains.specs.TreeFiles.{FileBlocks}
use Rattle.hfs_remains_forks.specs.declared.shares.Share.{Share}
use Rattle.hfs_remains_forks.specs.Forks.{fork_length}
use Rattle.hfs_remains_forks.specs.Verdicts.{share_used}

-- the first so many bytes, with zeros where there are fewer
unfoldable pub filled : ℕ → List ℕ → List ℕ
filled count bytes = take count (bytes ++ replicate count 0)

-- the bytes of an allocation block: those of the image from where it begins on; zeros of one that is missing
unfoldable pub place_bytes : List ℕ → Mdb → Option ℕ → List ℕ
place_bytes image mdb None = replicate mdb.allocation_block_size 0
place_bytes image mdb (Some b) = filled mdb.allocation_block_size (drop (512 * start_of mdb b) image)

-- those of blocks, one after the other
abbrev pub places_bytes : List ℕ → Mdb → FileBlocks → List ℕ
places_bytes image mdb places = flat_map (place_bytes image mdb) places

-- so many bytes of a fork in these blocks
abbrev pub fork_bytes : List ℕ → Mdb → ℕ → FileBlocks → List ℕ
fork_bytes image mdb length places = take length (places_bytes image mdb places)

-- the bytes that are taken of a fork of an image of `total` logical blocks: as many of those of its blocks as it is long; none where it is left
abbrev pub share_bytes : List ℕ → ℕ → Overflow → Mdb → Share → List ℕ
share_bytes image total records mdb share = fork_bytes image mdb (if share.taken then fork_length records mdb share.fork else 0) (share_used total records mdb share)
