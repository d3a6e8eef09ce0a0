-- The table of a volume's items, as it is written.
use Rattle.std.specs.Prelude.{◌≡◌, ℕ, suc, Bool, true, false, List, [], ◌++◌, length, flat_map, Option}
use Rattle.std.specs.Io.KnownBytes.{Appends}
use Rattle.hfs_items.specs.ToldRows.{ToldRow, told_rows}
use Rattle.hfs_table.specs.Lines.{head_text, row_text}
use Rattle.hfs_table.specs.declared.format.Format.{Format}
use Rattle.hfs_texts.specs.Writing.{AppendsFront}
use Rattle.hfs_commands.specs.Entries.{entries_in}

-- the lines of rows
abbrev pub rows_text : Format → List ToldRow → List ℕ
rows_text format rows = flat_map (λ (row : ToldRow). row_text format row.path row.info) rows

-- the head, and the lines of rows
unfoldable pub table_text : Format → List ToldRow → List ℕ
table_text format rows = head_text format ++ rows_text format rows

-- the table of all items of an image's volume
abbrev pub items_text : Format → List ℕ → List ℕ
items_text format image = table_text format (told_rows (entries_in image))

-- the writer is given the table of an image
abbrev pub WritesItems : Format → Option (List ℕ) → Option (List ℕ) → List ℕ → Type 0
WritesItems format old new = λ image. Appends old new (items_text format image)

-- or a part of it, from the beginning on
abbrev pub WritesItemsFront : Format → Option (List ℕ) → Option (List ℕ) → List ℕ → Type 0
WritesItemsFront format old new = λ image. AppendsFront old new (items_text format image)

-- the line of the first of the rows came to the text, where there is one
abbrev pub MovesRow : Format → Bool → List ℕ → List ℕ → List ToldRow → List ToldRow → Type 0
MovesRow format true old new rows left = (old ++ rows_text format rows ≡ new ++ rows_text format left) × (length rows ≡ suc (length left))
MovesRow format false old new rows left = (new ≡ old) × (rows ≡ [])
