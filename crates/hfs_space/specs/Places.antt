-- Places in forks.
use Rattle.std.specs.Prelude.{◌≡◌, ℕ, ◌*◌, ◌<◌, ◌≤◌, List, length, drop, slice_index_or, take}
use Rattle.std.proofs.Common.{Vec, Global}
use Rattle.hfs_fields.specs.declared.extent.Extent.{Extent}
use Rattle.hfs_fields.specs.declared.mdb.Mdb.{Mdb}
use Rattle.hfs_space.specs.declared.fork_place.ForkPlace.{ForkPlace}
use Rattle.hfs_space.specs.ForkLengths.{all_bytes}
use Rattle.hfs_space.specs.Forks.{blocks_each}

-- no more bytes of the place's extent are passed than it has
abbrev pub IsPlace : Mdb → List Extent → ForkPlace → Type 0
IsPlace mdb extents place =
    (d : Extent) → place.extent < length extents → place.passed ≤ 512 * ((slice_index_or extents place.extent d).count * blocks_each mdb)

-- the bytes of the extents' blocks from the place on
abbrev pub bytes_behind : (ℕ → List ℕ) → Mdb → List Extent → ForkPlace → List ℕ
bytes_behind blocks mdb extents place = drop place.passed (all_bytes blocks mdb (drop place.extent extents))

-- so many of the bytes from the place on, or as many as there are
abbrev pub bytes_from : (ℕ → List ℕ) → Mdb → List Extent → ForkPlace → ℕ → List ℕ
bytes_from blocks mdb extents place count = take count (bytes_behind blocks mdb extents place)

-- what is read from the place on has so many bytes, or as many as there are
abbrev pub HasRead : (ℕ → List ℕ) → Mdb → List Extent → ForkPlace → ℕ → Vec ℕ Global × ForkPlace → Type 0
HasRead blocks mdb extents place count = λ read. read.0.items ≡ bytes_from blocks mdb extents place count

-- what is read is followed by what was after the place, except for so many bytes
abbrev pub HasPassed : (ℕ → List ℕ) → Mdb → List Extent → ForkPlace → ℕ → Vec ℕ Global × ForkPlace → Type 0
HasPassed blocks mdb extents place count = λ read. bytes_behind blocks mdb extents read.1 ≡ drop count (bytes_behind blocks mdb extents place)
