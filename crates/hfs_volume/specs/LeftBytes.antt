-- What an open fork keeps.
use Rattle.std.specs.Prelude.{ℕ, ◌≤◌, List, length, take}
use Rattle.hfs_fields.specs.declared.extent.Extent.{Extent}
use Rattle.hfs_fields.specs.declared.mdb.Mdb.{Mdb}
use Rattle.hfs_blocks.specs.Blocks.{block_at, block_count}
use Rattle.hfs_space.specs.declared.fork_place.ForkPlace.{ForkPlace}
use Rattle.hfs_space.specs.Extents.{AreExtentsWithin}
use Rattle.hfs_space.specs.Forks.{HasArea}
use Rattle.hfs_space.specs.Places.{IsPlace, bytes_behind}
use Rattle.hfs_volume.specs.Image.{ImageValue}

-- so many bytes from a place in its extents on
abbrev pub left_bytes : ImageValue → Mdb → List Extent → ForkPlace → ℕ → List ℕ
left_bytes image mdb extents place left = take left (bytes_behind (block_at image.current) mdb extents place)

-- its extents lie in the image, and there are so many bytes after the place
pub record IsOpenFork (image : ImageValue) (mdb : Mdb) (extents : List Extent) (place : ForkPlace) (left : ℕ) : Type 0 where
  pub area : HasArea mdb (block_count image.current)
  pub within : AreExtentsWithin mdb.allocation_blocks extents
  pub at : IsPlace mdb extents place
  pub room : left ≤ length (bytes_behind (block_at image.current) mdb extents place)
