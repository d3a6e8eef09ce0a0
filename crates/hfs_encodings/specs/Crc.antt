-- The check that is in a MacBinary header: a cyclic redundancy check of 16 bits by CCITT's polynomial, from 0, the most significant bit first.
use Rattle.std.specs.Prelude.{ℕ, ◌*◌, ◌%◌, ◌^◌, ◌==◌, if◌then◌else◌, List, [], ◌∷◌, bit_xor}
use Rattle.std.specs.Int.{bit_at}
use Rattle.std.specs.List.{fold, flat_map}

-- the polynomial x^16 + x^12 + x^5 + 1 except for its highest power: $1021
abbrev pub polynomial : ℕ
polynomial = 4129

-- the bits of a byte, the most significant first
abbrev pub bits_of : ℕ → List ℕ
bits_of byte =
    bit_at byte 7 ∷ bit_at byte 6 ∷ bit_at byte 5 ∷ bit_at byte 4 ∷ bit_at byte 3 ∷ bit_at byte 2 ∷ bit_at byte 1 ∷ bit_at byte 0 ∷ []

-- the check with one bit more: it moves up by one place, and where the bit that leaves it differs from the next one, the polynomial is taken off
unfoldable pub crc_with_bit : ℕ → ℕ → ℕ
crc_with_bit crc bit = bit_xor (crc * 2 % 2 ^ 16) (if bit_at crc 15 == bit then 0 else polynomial)

-- the check of a list of bits
abbrev pub crc_of_bits : List ℕ → ℕ
crc_of_bits bits = fold crc_with_bit 0 bits

-- the check of bytes
unfoldable pub crc16 : List ℕ → ℕ
crc16 bytes = crc_of_bits (flat_map bits_of bytes)

-- the check with the bits of one byte more
unfoldable pub crc_with_byte : ℕ → ℕ → ℕ
crc_with_byte crc byte = fold crc_with_bit crc (bits_of byte)
