-- The allocation blocks of a directory that are there.
use Rattle.std.specs.Prelude.{ℕ, ◌+◌, ◌*◌, Bool, ◌&&◌, nat_lt, nat_le}
use Rattle.hfs_fields.specs.declared.mdb.Mdb.{Mdb}
use Rattle.hfs_space.specs.Forks.{blocks_each}

-- the logical block in which an allocation block begins
abbrev pub start_of : Mdb → ℕ → ℕ
start_of mdb b = mdb.allocation_start + b * blocks_each mdb

-- an allocation block is there where it is one of the directory's, and lies whole among so many logical blocks
unfoldable pub is_there : ℕ → Mdb → ℕ → Bool
is_there total mdb b = nat_lt b mdb.allocation_blocks && nat_le (start_of mdb (b + 1)) total
