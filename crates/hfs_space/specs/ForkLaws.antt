-- Laws of the bytes of forks.
use Rattle.std.specs.Prelude.{ℕ, List, map}
use Rattle.std.specs.List.{flat_map}
use Rattle.hfs_fields.specs.declared.extent.Extent.{Extent}
use Rattle.hfs_fields.specs.declared.mdb.Mdb.{Mdb}
use Rattle.hfs_blocks.specs.Blocks.{run_of}
use Rattle.hfs_space.specs.Forks.{run_in}

-- the numbers of a file's logical blocks
abbrev pub block_numbers : Mdb → List Extent → List ℕ
block_numbers mdb extents = flat_map run_of (map (run_in mdb) extents)
