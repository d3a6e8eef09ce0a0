-- The rows of an image as text.
use Rattle.std.specs.Prelude.{ℕ, Bool, true, false, if◌then◌else◌, List, [], ◌∷◌, ◌++◌, Some, None}
use Rattle.hfs_database.specs.declared.value.RowValue.{RowValue}
use Rattle.hfs_database.specs.declared.value.RowValue.TheVariants.{Empty, Number, Text}
use Rattle.hfs_database.specs.declared.value.Table.{Table}
use Rattle.hfs_database.specs.declared.value.Table.TheVariants as table
use Rattle.hfs_database.specs.Taken.{TakenRow}
use Rattle.hfs_database.specs.declared.column.Label.TheVariants.{Row, End}
use Rattle.hfs_database.specs.declared.form.Form.{Form}
use Rattle.hfs_database.specs.declared.form.Form.TheVariants.{All, Json, Csv}
use Rattle.hfs_database.specs.declared.keys.Keys.{Keys}
use Rattle.hfs_database.specs.Columns.{columns_of, end_columns}
use Rattle.hfs_database.specs.Keys.{keys_after, keys_behind, no_keys}
use Rattle.hfs_database.specs.RowLines.{csv_head, csv_line, json_line}

-- ---- rows

abbrev pub is_same : Table → Table → Bool
is_same table.Image table.Image = true
is_same table.Image _ = false
is_same table.Volume table.Volume = true
is_same table.Volume _ = false
is_same table.Item table.Item = true
is_same table.Item _ = false

-- what precedes the first row
abbrev pub head_text : Form → List ℕ
head_text All = []
head_text (Json wanted) = []
head_text (Csv wanted) = csv_head (columns_of wanted)

-- a row of this table after rows with these keys: of all tables each, of one its own alone
abbrev pub row_text : Form → Keys → Table → List RowValue → List ℕ
row_text All keys table values = json_line (Some (Row table)) (columns_of table) keys values
row_text (Json wanted) keys table values = if is_same wanted table then json_line None (columns_of table) keys values else []
row_text (Csv wanted) keys table values = if is_same wanted table then csv_line (columns_of table) keys values else []

-- rows, one after the other
abbrev pub rows_text : Form → Keys → List TakenRow → List ℕ
rows_text form keys [] = []
rows_text form keys (row ∷ rest) = row_text form keys row.table row.values ++ rows_text form (keys_after keys row.table row.values) rest

-- ---- an image

abbrev pub whole_value : Bool → RowValue
whole_value true = Number 1
whole_value false = Number 0

-- the end of the image with these keys, of which all rows were given or not; none where there was no image
abbrev pub end_by : RowValue → Keys → Bool → List ℕ
end_by Empty keys is_whole = []
end_by (Number n) keys is_whole = json_line (Some End) end_columns keys (whole_value is_whole ∷ [])
end_by (Text path) keys is_whole = json_line (Some End) end_columns keys (whole_value is_whole ∷ [])

-- it is only among the rows of all tables
abbrev pub end_text : Form → Keys → Bool → List ℕ
end_text All keys is_whole = end_by keys.path keys is_whole
end_text (Json wanted) keys is_whole = []
end_text (Csv wanted) keys is_whole = []

-- these rows of an image, and its end
abbrev pub image_text : Form → List TakenRow → Bool → List ℕ
image_text form rows is_whole = rows_text form no_keys rows ++ end_text form (keys_behind no_keys rows) is_whole
