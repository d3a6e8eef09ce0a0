-- The repaired image: each counted number that is wrong as it is counted.
use Rattle.std.specs.Prelude.{ℕ, zero, suc, Bool, true, if◌then◌else◌, List, [], ◌∷◌, length, filter}
use Rattle.std.specs.Option.{is_none}
use Rattle.byteorder.specs.Endian.{big_bytes}
use Rattle.hfs_fields.specs.Counts.{IsOutside}
use Rattle.hfs_fields.specs.Each.{Each}
use Rattle.hfs_blocks.specs.Blocks.{block_at, block_count}
use Rattle.hfs_check.specs.Parts.{mdb_in}
use Rattle.hfs_check.specs.Faults.{◌or_fault◌, length_fault, mdb_fault, trees_fault, records_fault}
use Rattle.hfs_repair.specs.Fields.{PlacedNumber}
use Rattle.hfs_repair.specs.Placed.{is_wrong, placed_in}

-- what the checks before those of numbers find, where the trees' header records may have any two numbers: of
-- the length, the master directory block, the two trees, the catalog's records, IDs, names, order, parents and threads
unfoldable pub is_mendable : List ℕ → Bool
is_mendable image =
    is_none (length_fault (length image) or_fault mdb_fault (block_count image) (mdb_in (block_at image)) or_fault trees_fault true true (block_at image) or_fault records_fault (block_at image))

-- The numbers in which an image and its repaired image differ: each counted number that is wrong, where nothing else before them is
-- wrong; else none. A number too large for its field stays.
unfoldable pub wrong_in : List ℕ → List PlacedNumber
wrong_in image = if is_mendable image then filter is_wrong (placed_in (block_at image)) else []

-- bytes with others laid over them from a place on; what has no room is left out
abbrev pub laid_over : List ℕ → ℕ → List ℕ → List ℕ
laid_over [] at new = []
laid_over (b ∷ bytes) zero [] = b ∷ bytes
laid_over (b ∷ bytes) zero (x ∷ new) = x ∷ laid_over bytes zero new
laid_over (b ∷ bytes) (suc at) new = b ∷ laid_over bytes at new

-- an image with these numbers as they are counted
abbrev pub with_numbers : List PlacedNumber → List ℕ → List ℕ
with_numbers [] image = image
with_numbers (n ∷ ns) image = with_numbers ns (laid_over image n.1.at (big_bytes n.1.width n.1.now))

-- the image with each number that is wrong as it is counted
unfoldable pub repair : List ℕ → List ℕ
repair image = with_numbers (wrong_in image) image

-- place k is in none of these numbers
abbrev pub IsInNone : List PlacedNumber → ℕ → Type 0
IsInNone ns k = Each (λ n. IsOutside n.1.at n.1.width k) ns
