-- Extents to which blocks are added.
use Rattle.std.specs.Prelude.{ℕ, ◌+◌, ◌-◌, Bool, ◌&&◌, ◌==◌, nat_lt, if◌then◌else◌, List, [], ◌∷◌, ◌++◌, length, slice_index_or, slice_set}
use Rattle.hfs_fields.specs.declared.extent.Extent.{Extent}

-- the place of an extent that is not in use
abbrev pub none : Extent
none = record { first = 0; count = 0 }

-- how many places there are up to the last extent that has blocks
abbrev pub used_places : List Extent → ℕ
used_places [] = 0
used_places (e ∷ es) = if used_places es == 0 then (if e.count == 0 then 0 else 1) else used_places es + 1

-- the last of the first `used` extents; one that is not in use where there is none
abbrev pub last_used : List Extent → ℕ → Extent
last_used extents used = if used == 0 then none else slice_index_or extents (used - 1) none

-- the piece begins directly after the extent's last block
abbrev pub joins : Extent → Extent → Bool
joins e piece = nat_lt 0 e.count && ((e.first + e.count) == piece.first)

-- the extent with the piece's blocks
abbrev pub longer : Extent → Extent → Extent
longer e piece = record { first = e.first; count = e.count + piece.count }

-- the piece at a place; where there is none, in a new record of three
abbrev pub with_place : List Extent → ℕ → Extent → List Extent
with_place extents place piece = if nat_lt place (length extents) then slice_set extents place piece else extents ++ piece ∷ none ∷ none ∷ []

-- The piece lengthens the last extent that has blocks, where it begins directly after it, and otherwise gets the next place. The
-- first `used` places are those up to that extent.
abbrev pub with_piece : List Extent → ℕ → Extent → List Extent
with_piece extents used piece =
    if joins (last_used extents used) piece
    then slice_set extents (used - 1) (longer (last_used extents used) piece)
    else with_place extents used piece

-- where the places end that are in use then
abbrev pub used_with : List Extent → ℕ → Extent → ℕ
used_with extents used piece = if joins (last_used extents used) piece then used else used + 1

-- the same with each of the pieces, one after the other
abbrev pub lengthened : List Extent → ℕ → List Extent → List Extent
lengthened extents used [] = extents
lengthened extents used (piece ∷ pieces) = lengthened (with_piece extents used piece) (used_with extents used piece) pieces
