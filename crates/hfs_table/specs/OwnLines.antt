-- The lines of an item of which only its own record is known, in the three formats of the table: whether a file has a thread, and how many items lie in a
-- folder, stay empty, and so does the path of an item that no names lead to.
use Rattle.std.specs.Prelude.{ℕ, List, [], ◌∷◌, ◌++◌, codes, flat_map}
use Rattle.json.specs.Token as json
use Rattle.json.specs.Print.{print}
use Rattle.hfs_model.specs.declared.reply.Info.{Info}
use Rattle.hfs_table.specs.Cells.{cell_value, path}
use Rattle.hfs_table.specs.Columns.{column_name}
use Rattle.hfs_table.specs.declared.column.Column.{Column}
use Rattle.hfs_table.specs.declared.column.Column.TheVariants as variant
use Rattle.hfs_table.specs.declared.format.Format.{Format}
use Rattle.hfs_table.specs.declared.format.Format.TheVariants as format
use Rattle.hfs_table.specs.Lines.{field_text, member, own_fields}

-- ---- the columns that it has

-- those before the column of a file's ID
abbrev pub before_file_id : List Column
before_file_id = variant.Kind ∷ variant.Id ∷ variant.Parent ∷ variant.Type ∷ variant.Creator ∷ variant.Flags ∷ variant.Locked ∷ []

-- those between it and the column of the number of a folder's items
abbrev pub dates : List Column
dates = variant.Created ∷ variant.Modified ∷ variant.Backup ∷ []

-- those after that
abbrev pub behind_items : List Column
behind_items = variant.DataBytes ∷ variant.ResourceBytes ∷ variant.Finder ∷ []

-- ---- with tabs

-- the fields of columns, each after a tab
abbrev pub tabbed_fields : List Column → List (List ℕ) → Info → List ℕ
tabbed_fields columns names info = flat_map (λ (column : Column). codes "\t" ++ field_text names info column) columns

unfoldable pub own_tab_line : List (List ℕ) → Info → List ℕ
own_tab_line names info =
    field_text names info variant.Path ++ tabbed_fields before_file_id names info ++ codes "\t" ++ tabbed_fields dates names info
    ++ codes "\t" ++ tabbed_fields behind_items names info ++ codes "\n"

-- ---- CSV

abbrev pub own_csv_line : List (List ℕ) → Info → List ℕ
own_csv_line names info = own_fields names info ++ codes "\r\n"

-- ---- JSON

-- the path to which these names lead, from the root's down; null where there are none
abbrev pub path_value : List (List ℕ) → json.Token
path_value [] = json.null
path_value (name ∷ names) = cell_value (path (name ∷ names))

abbrev pub path_member : List (List ℕ) → List json.Token
path_member names = json.key (column_name variant.Path) ∷ path_value names ∷ []

-- the member of a column of which nothing is said
abbrev pub null_member : Column → List json.Token
null_member column = json.key (column_name column) ∷ json.null ∷ []

abbrev pub members : List Column → List (List ℕ) → Info → List json.Token
members columns names info = flat_map (member names info) columns

-- the members after that of the path, in the order of the columns
unfoldable pub own_members : List (List ℕ) → Info → List json.Token
own_members names info =
    members before_file_id names info ++ null_member variant.FileId ++ members dates names info ++ null_member variant.Items ++ members behind_items names info

unfoldable pub own_object : List (List ℕ) → Info → List json.Token
own_object names info = json.begin_object ∷ (path_member names ++ own_members names info) ++ json.end_object ∷ []

-- its text without spaces, and a line feed
unfoldable pub own_json_line : List (List ℕ) → Info → List ℕ
own_json_line names info = print (own_object names info) ++ codes "\n"

-- ---- any format

-- the row of such an item, to which these names lead, from the root's down
abbrev pub own_row_text : Format → List (List ℕ) → Info → List ℕ
own_row_text format.Tab names info = own_tab_line names info
own_row_text format.Csv names info = own_csv_line names info
own_row_text format.Json names info = own_json_line names info
