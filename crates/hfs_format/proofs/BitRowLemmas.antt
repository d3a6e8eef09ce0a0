-- Lemmas about the definitions of specs/BitRow.antt.
use Rattle.std.proofs.Common.{◌≡◌, ℕ, ◌+◌, ◌++◌, length, map, sym, ap, ◌∙◌}
use Rattle.std.specs.List.{range_with_len}
use Rattle.std.proofs.lemmas.List.{map-append}
use Rattle.std.proofs.lemmas.List.FromFn.{length-map-range_with_len}
use Rattle.hfs_space.proofs.ForkLawLemmas.{range-add}
use Rattle.hfs_format.specs.BitRow.{bit_row_byte, bit_row}

pub length-bit_row : (n first count : ℕ) → length (bit_row n first count) ≡ count
unfolding bit_row
length-bit_row n first count = length-map-range_with_len (bit_row_byte n) first count

-- a row, and what follows it
pub bit_row-append : (n first count more : ℕ) → bit_row n first count ++ bit_row n (first + count) more ≡ bit_row n first (count + more)
unfolding bit_row
bit_row-append n first count more =
    sym (ap (map (bit_row_byte n)) (range-add first count more)
    ∙ map-append (bit_row_byte n) (range_with_len first count) (range_with_len (first + count) more))
