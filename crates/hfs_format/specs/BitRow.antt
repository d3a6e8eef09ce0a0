-- Rows of bits of which the first are set: the bitmap and the node map of a new volume.
use Rattle.std.specs.Prelude.{ℕ, ◌-◌, ◌*◌, ◌^◌, min, List, map}
use Rattle.std.specs.List.{range_with_len}

-- byte j of a row of bits of which the first n are set, the most significant bit of byte 0 being the first bit
unfoldable pub bit_row_byte : ℕ → ℕ → ℕ
bit_row_byte n j = 256 - 2 ^ (8 - min 8 (n - 8 * j))

-- so many bytes of the row, from byte `first` on
unfoldable pub bit_row : ℕ → ℕ → ℕ → List ℕ
bit_row n first count = map (bit_row_byte n) (range_with_len first count)
