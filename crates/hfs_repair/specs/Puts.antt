-- Bytes that are written into an image one after the other.
use Rattle.std.specs.Prelude.{◌≡◌, ℕ, suc, ◌*◌, ◌<◌, List, [], ◌∷◌, slice_set}
use Rattle.std.specs.List.{flat_map}
use Rattle.byteorder.specs.Endian.{big_bytes}
use Rattle.hfs_fields.specs.Each.{Each}
use Rattle.hfs_repair.specs.declared.byte_put.BytePut.{BytePut}
use Rattle.hfs_repair.specs.Fields.{CountedNumber, PlacedNumber}
use Rattle.hfs_repair.specs.Repair.{repair}

-- bytes that are one after the other from a place on
abbrev pub puts_from : ℕ → List ℕ → List BytePut
puts_from at [] = []
puts_from at (b ∷ bytes) = record { at = at; byte = b } ∷ puts_from (suc at) bytes

-- the bytes of a number as it is counted
abbrev pub number_puts : CountedNumber → List BytePut
number_puts n = puts_from n.at (big_bytes n.width n.now)

unfoldable pub puts_of : List PlacedNumber → List BytePut
puts_of numbers = flat_map (λ n. number_puts n.1) numbers

-- each of these bytes is in one of so many blocks
abbrev pub AreInBlocks : ℕ → List BytePut → Type 0
AreInBlocks total puts = Each (λ put. put.at < 512 * total) puts

-- an image with these bytes, the first of them written first
abbrev pub put_all : List BytePut → List ℕ → List ℕ
put_all [] image = image
put_all (p ∷ ps) image = put_all ps (slice_set image p.at p.byte)

-- these bytes make the repaired image of the image
abbrev pub IsMendedBy : List ℕ → List BytePut → Type 0
IsMendedBy image puts = put_all puts image ≡ repair image

-- and with the last of them written first
abbrev pub put_back : List BytePut → List ℕ → List ℕ
put_back [] image = image
put_back (p ∷ ps) image = slice_set (put_back ps image) p.at p.byte
