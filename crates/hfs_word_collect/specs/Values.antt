-- What stands in the columns of a row.
use Rattle.std.specs.Prelude.{ℕ, Bool, true, false, List, [], ◌∷◌}
use Rattle.hex.specs.Hex.{encode_lower}
use Rattle.sha2.specs.Sha256.{sha256}
use Rattle.hfs_database.specs.declared.value.RowValue.{RowValue}
use Rattle.hfs_database.specs.declared.value.RowValue.TheVariants.{Empty, Number, Text}
use Rattle.hfs_table.specs.Cells.{Cell, empty, path, characters, word, number, flag, cell_text}

-- a text, and nothing where it is empty
abbrev pub text_value : List ℕ → RowValue
text_value [] = Empty
text_value (c ∷ rest) = Text (c ∷ rest)

-- what stands in a field of the table: yes is 1, and no is 0
abbrev pub cell_value : Cell → RowValue
cell_value empty = Empty
cell_value (path names) = text_value (cell_text (path names))
cell_value (characters bytes) = text_value (cell_text (characters bytes))
cell_value (word text) = text_value text
cell_value (number n) = Number n
cell_value (flag true) = Number 1
cell_value (flag false) = Number 0

-- the SHA-256 digest of bytes in 64 hexadecimal digits
abbrev pub digest_value : List ℕ → RowValue
digest_value bytes = Text (encode_lower (sha256 bytes))

-- nothing, where no digests are taken
abbrev pub where_taken : Bool → RowValue → RowValue
where_taken true value = value
where_taken false value = Empty
