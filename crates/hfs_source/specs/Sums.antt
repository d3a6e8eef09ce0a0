-- The sum of Disk Copy 4.2.
use Rattle.std.specs.Prelude.{ℕ, ◌+◌, ◌*◌, ◌/◌, ◌%◌, ◌^◌, Bool, ◌==◌, List, [], ◌∷◌, Option, None, Some}
use Rattle.hfs_source.specs.declared.ranges.Container.{Container}
use Rattle.hfs_source.specs.declared.ranges.Container.TheVariants.{Bare, MacBinary, DiskCopy, Partition, RawBare, RawPartition}

-- a number of 32 bits turned right by one bit
abbrev pub turned : ℕ → ℕ
turned sum = sum / 2 + sum % 2 * 2 ^ 31

-- the sum with a word more: it is added, modulo 2^32, and the sum is turned
unfoldable pub with_word : ℕ → ℕ → ℕ
with_word sum word = turned ((sum + word) % 2 ^ 32)

-- the sum that goes on over bytes, word by word of two bytes, the high one first; a byte alone at the end is no word
unfoldable pub sum_from : ℕ → List ℕ → ℕ
sum_from sum [] = sum
sum_from sum (byte ∷ []) = sum
sum_from sum (high ∷ low ∷ bytes) = sum_from (with_word sum (high * 256 + low)) bytes

abbrev pub sum_of : List ℕ → ℕ
sum_of bytes = sum_from 0 bytes

-- whether the sum that a disk copy's header tells is that of its data; None of what has no header
abbrev pub sum_told : Container → List ℕ → Option Bool
sum_told Bare bytes = None
sum_told MacBinary bytes = None
sum_told (DiskCopy sum) bytes = Some (sum_of bytes == sum)
sum_told Partition bytes = None
sum_told RawBare bytes = None
sum_told RawPartition bytes = None
