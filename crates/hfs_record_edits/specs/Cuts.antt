-- Extents of which the first blocks stay, and those of the other blocks.
use Rattle.std.specs.Prelude.{ℕ, ◌+◌, ◌-◌, ◌==◌, nat_le, if◌then◌else◌, List, [], ◌∷◌}
use Rattle.hfs_fields.specs.declared.extent.Extent.{Extent}

-- The first n blocks of an extent. One that loses its last block is 0, 0; one that had none stays as it is.
abbrev pub cut_extent : ℕ → Extent → Extent
cut_extent n e = if nat_le e.count n then e else if n == 0 then record { first = 0; count = 0 } else record { first = e.first; count = n }

-- the first n blocks of extents, which keep their places
abbrev pub cut : ℕ → List Extent → List Extent
cut n [] = []
cut n (e ∷ es) = cut_extent n e ∷ cut (n - e.count) es

-- the blocks after the first n, as extents
abbrev pub surplus : ℕ → List Extent → List Extent
surplus n [] = []
surplus n (e ∷ es) = if nat_le e.count n then surplus (n - e.count) es else record { first = e.first + n; count = e.count - n } ∷ surplus 0 es
