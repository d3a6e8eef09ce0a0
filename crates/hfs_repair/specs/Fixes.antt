-- What a repair reports.
use Rattle.std.specs.Prelude.{ℕ, ◌+◌, List, map}
use Rattle.std.specs.List.Sorted.{IsPermutation, IsNonDecreasingBy}
use Rattle.hfs_repair.specs.declared.fixed.Fix.{Fix}
use Rattle.hfs_repair.specs.declared.fixed.FixPlace.{FixPlace}
use Rattle.hfs_repair.specs.declared.fixed.FixPlace.TheVariants.{RootFiles, FreeBlocks, RootFolders, Files, Folders, ExtentsRecords, ExtentsFree, CatalogRecords, CatalogFree, Valence}
use Rattle.hfs_repair.specs.Fields.{PlacedNumber}

-- the number as the volume had it, and as it is counted
abbrev pub fix_of : PlacedNumber → Fix
fix_of n = record { place = n.0; was = n.1.was; now = n.1.now }

-- the order in which a repair reports the numbers, valences by their folders' IDs
unfoldable pub rank : FixPlace → ℕ
rank RootFiles = 0
rank FreeBlocks = 1
rank RootFolders = 2
rank Files = 3
rank Folders = 4
rank ExtentsRecords = 5
rank ExtentsFree = 6
rank CatalogRecords = 7
rank CatalogFree = 8
rank (Valence id) = 9 + id

-- each of these numbers is reported once, in this order
pub record AreFixes (numbers : List PlacedNumber) (fixes : List Fix) : Type 0 where
  pub each : IsPermutation (map fix_of numbers) fixes
  pub order : IsNonDecreasingBy (λ fix. rank fix.place) fixes
