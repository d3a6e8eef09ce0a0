-- Pieces that come to a fork.
use Rattle.std.proofs.Common.{ℕ, ◌≤◌, List, arith}
use Rattle.hfs_fields.specs.declared.extent.Extent.{Extent}
use Rattle.hfs_space.specs.Extents.{AreExtentsWithin}

-- extents that lie among the first blocks lie among more
pub within_more : (n m : ℕ) (es : List Extent) → n ≤ m → AreExtentsWithin n es → AreExtentsWithin m es
within_more n m es le h k d lt some = let in_n = h k d lt some in omega (arith, in_n, le)
