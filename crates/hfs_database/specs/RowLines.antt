-- The lines of rows, in JSON and in CSV.
use Rattle.std.specs.Prelude.{ℕ, List, [], ◌∷◌, ◌++◌, Option, Some, None, codes, flat_map}
use Rattle.std.specs.Fmt.{decimal}
use Rattle.std.specs.List.{join_by}
use Rattle.json.specs.Token as json
use Rattle.json.specs.Print.{print}
use Rattle.hfs_table.specs.Lines.{doubled}
use Rattle.hfs_database.specs.declared.value.RowValue.{RowValue}
use Rattle.hfs_database.specs.declared.value.RowValue.TheVariants.{Empty, Number, Text}
use Rattle.hfs_database.specs.declared.column.Label.{Label}
use Rattle.hfs_database.specs.declared.keys.Keys.{Keys}
use Rattle.hfs_database.specs.Columns.{Named, label_name}
use Rattle.hfs_database.specs.Keys.{cell}

-- ---- JSON

-- nothing is null, a number is bare
abbrev pub value_token : RowValue → json.Token
value_token Empty = json.null
value_token (Number n) = json.number (decimal n)
value_token (Text text) = json.string text

-- a column's member: its name and its value
abbrev pub member : Keys → List RowValue → Named → List json.Token
member keys values column = json.key column.name ∷ value_token (cell keys values column.origin) ∷ []

-- the member that says about which table a line is, where it is asked for
abbrev pub table_member : Option Label → List json.Token
table_member None = []
table_member (Some label) = json.key (codes "table") ∷ json.string (label_name label) ∷ []

-- an object with the members in the order of the columns
unfoldable pub object : Option Label → List Named → Keys → List RowValue → List json.Token
object label columns keys values = json.begin_object ∷ table_member label ++ flat_map (member keys values) columns ++ json.end_object ∷ []

-- its text without spaces, and a line feed
unfoldable pub json_line : Option Label → List Named → Keys → List RowValue → List ℕ
json_line label columns keys values = print (object label columns keys values) ++ codes "\n"

-- ---- CSV

-- a field: nothing is empty, a number is bare, a text between quotation marks, with those that it holds twice
abbrev pub field : RowValue → List ℕ
field Empty = []
field (Number n) = decimal n
field (Text text) = codes "\"" ++ flat_map doubled text ++ codes "\""

-- the names of the columns with commas between; a line ends with CR LF
unfoldable pub csv_head : List Named → List ℕ
csv_head columns = join_by (λ column. column.name) (codes ",") columns ++ codes "\r\n"

unfoldable pub csv_line : List Named → Keys → List RowValue → List ℕ
csv_line columns keys values = join_by (λ column. field (cell keys values column.origin)) (codes ",") columns ++ codes "\r\n"
