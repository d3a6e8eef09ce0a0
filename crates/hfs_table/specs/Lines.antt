-- The lines of the table in its three formats.
use Rattle.std.specs.Prelude.{ℕ, Bool, ◌||◌, ◌==◌, if◌then◌else◌, List, [], ◌∷◌, ◌++◌, codes, drop, flat_map}
use Rattle.std.specs.List.{list_any, join_by}
use Rattle.json.specs.Token as json
use Rattle.json.specs.Print.{print}
use Rattle.hfs_model.specs.declared.reply.Info.{Info}
use Rattle.hfs_texts.specs.MacPaths.{host_path}
use Rattle.hfs_table.specs.Cells.{cell_text, cell_value}
use Rattle.hfs_table.specs.Columns.{columns, column_name, cell}
use Rattle.hfs_table.specs.declared.column.Column.{Column}
use Rattle.hfs_table.specs.declared.column.Column.TheVariants as variant
use Rattle.hfs_table.specs.declared.format.Format.{Format}
use Rattle.hfs_table.specs.declared.format.Format.TheVariants as format

-- the text of a column's field
abbrev pub field_text : List (List ℕ) → Info → Column → List ℕ
field_text names info column = cell_text (cell column names info)

-- the fields with tabs between, and a line feed
unfoldable pub tab_line : List (List ℕ) → Info → List ℕ
tab_line names info = join_by (field_text names info) (codes "\t") columns ++ codes "\n"

-- ---- CSV

-- a comma or a quotation mark
unfoldable pub is_quoted_for : ℕ → Bool
is_quoted_for c = c == 44 || c == 34

-- a quotation mark twice, and any other character as it is
unfoldable pub doubled : ℕ → List ℕ
doubled c = if c == 34 then 34 ∷ 34 ∷ [] else c ∷ []

-- a field: as it is, or where it holds a comma or a quotation mark between quotation marks, with those that it holds twice
unfoldable pub csv_field : List ℕ → List ℕ
csv_field text = if list_any is_quoted_for text then codes "\"" ++ flat_map doubled text ++ codes "\"" else text

-- the names of the columns with commas between; a line ends with CR LF
unfoldable pub csv_head : List ℕ
csv_head = join_by column_name (codes ",") columns ++ codes "\r\n"

-- the fields of a row with commas between
unfoldable pub csv_fields : List (List ℕ) → Info → List ℕ
csv_fields names info = join_by (λ column. csv_field (field_text names info column)) (codes ",") columns

abbrev pub csv_line : List (List ℕ) → Info → List ℕ
csv_line names info = csv_fields names info ++ codes "\r\n"

-- ---- CSV in bags, with one column more at its end: the path below the payload

unfoldable pub bag_head : List ℕ
bag_head = join_by column_name (codes ",") columns ++ codes ",bag_path\r\n"

-- where the item lies in a bag of a sound volume: at its host path; the root's is empty
abbrev pub bag_path : List (List ℕ) → List ℕ
bag_path names = host_path (drop 1 names)

-- the last field of a line, and its end
unfoldable pub bag_end : List ℕ → List ℕ
bag_end path = codes "," ++ csv_field path ++ codes "\r\n"

-- the line of the item to which these names lead, from the root's down
abbrev pub bag_line : List (List ℕ) → Info → List ℕ
bag_line names info = csv_fields names info ++ bag_end (bag_path names)

-- the fields of columns, each after a comma
abbrev fields_behind : List Column → List (List ℕ) → Info → List ℕ
fields_behind columns names info = flat_map (λ column. codes "," ++ csv_field (field_text names info column)) columns

-- the fields of an item by its own record alone: its thread and the items in it are not known
unfoldable pub own_fields : List (List ℕ) → Info → List ℕ
own_fields names info =
    csv_field (field_text names info variant.Path)
    ++ fields_behind (variant.Kind ∷ variant.Id ∷ variant.Parent ∷ variant.Type ∷ variant.Creator ∷ variant.Flags ∷ variant.Locked ∷ []) names info
    ++ codes ","
    ++ fields_behind (variant.Created ∷ variant.Modified ∷ variant.Backup ∷ []) names info
    ++ codes ","
    ++ fields_behind (variant.DataBytes ∷ variant.ResourceBytes ∷ variant.Finder ∷ []) names info

-- the line of such an item, which lies at this path in the bag; where no names lead to it, it has no Mac path
abbrev pub own_bag_line : List (List ℕ) → Info → List ℕ → List ℕ
own_bag_line names info path = own_fields names info ++ bag_end path

-- ---- JSON

-- a column's member: its name and its value
abbrev pub member : List (List ℕ) → Info → Column → List json.Token
member names info column = json.key (column_name column) ∷ cell_value (cell column names info) ∷ []

-- an object with the members in the order of the columns
unfoldable pub object : List (List ℕ) → Info → List json.Token
object names info = json.begin_object ∷ flat_map (member names info) columns ++ json.end_object ∷ []

-- its text without spaces, and a line feed
unfoldable pub json_line : List (List ℕ) → Info → List ℕ
json_line names info = print (object names info) ++ codes "\n"

-- ---- any format

-- what precedes the first row
abbrev pub head_text : Format → List ℕ
head_text format.Tab = []
head_text format.Csv = csv_head
head_text format.Json = []

-- the row of the item to which these names lead, from the root's down
abbrev pub row_text : Format → List (List ℕ) → Info → List ℕ
row_text format.Tab names info = tab_line names info
row_text format.Csv names info = csv_line names info
row_text format.Json names info = json_line names info
