-- The columns of the table, and what is in them of an item.
use Rattle.std.specs.Prelude.{ℕ, ◌==◌, if◌then◌else◌, List, [], ◌∷◌, take, drop, codes}
use Rattle.hfs_model.specs.declared.reply.Info.{Info}
use Rattle.hfs_model.specs.declared.reply.ItemKind.{ItemKind}
use Rattle.hfs_model.specs.declared.reply.ItemKind.TheVariants.{Folder, File}
use Rattle.hfs_texts.specs.Digits.{hex_text}
use Rattle.hfs_texts.specs.Moments.{moment}
use Rattle.hfs_table.specs.Cells.{Cell, empty, path, characters, word, number, flag}
use Rattle.hfs_table.specs.declared.column.Column.{Column}
use Rattle.hfs_table.specs.declared.column.Column.TheVariants as column

-- all of them, in their order
unfoldable pub columns : List Column
columns =
    column.Path ∷ column.Kind ∷ column.Id ∷ column.Parent ∷ column.Type ∷ column.Creator ∷ column.Flags ∷ column.Locked ∷ column.FileId
    ∷ column.Created ∷ column.Modified ∷ column.Backup ∷ column.Items ∷ column.DataBytes ∷ column.ResourceBytes ∷ column.Finder ∷ []

abbrev pub column_name : Column → List ℕ
column_name column.Path = codes "path"
column_name column.Kind = codes "kind"
column_name column.Id = codes "id"
column_name column.Parent = codes "parent"
column_name column.Type = codes "type"
column_name column.Creator = codes "creator"
column_name column.Flags = codes "flags"
column_name column.Locked = codes "locked"
column_name column.FileId = codes "file_id"
column_name column.Created = codes "created"
column_name column.Modified = codes "modified"
column_name column.Backup = codes "backup"
column_name column.Items = codes "items"
column_name column.DataBytes = codes "data_bytes"
column_name column.ResourceBytes = codes "resource_bytes"
column_name column.Finder = codes "finder"

abbrev pub kind_word : ItemKind → List ℕ
kind_word Folder = codes "folder"
kind_word File = codes "file"

-- what only a file has
abbrev pub of_file : ItemKind → Cell → Cell
of_file Folder cell = empty
of_file File cell = cell

-- and of a folder alone
abbrev pub of_folder : ItemKind → Cell → Cell
of_folder Folder cell = cell
of_folder File cell = empty

abbrev pub moment_cell : ℕ → Cell
moment_cell date = if date == 0 then empty else word (moment date)

-- what is in a column of an item, to which these names lead. Of the Finder's bytes the first four are a file's type, the next
-- its creator, and bytes 8 and 9 flags.
abbrev pub cell : Column → List (List ℕ) → Info → Cell
cell column.Path names info = path names
cell column.Kind names info = word (kind_word info.kind)
cell column.Id names info = number info.id
cell column.Parent names info = number info.parent
cell column.Type names info = of_file info.kind (characters (take 4 info.finder))
cell column.Creator names info = of_file info.kind (characters (take 4 (drop 4 info.finder)))
cell column.Flags names info = word (hex_text (take 2 (drop 8 info.finder)))
cell column.Locked names info = of_file info.kind (flag info.locked)
cell column.FileId names info = of_file info.kind (flag info.has_id)
cell column.Created names info = moment_cell info.created
cell column.Modified names info = moment_cell info.modified
cell column.Backup names info = moment_cell info.backup
cell column.Items names info = of_folder info.kind (number info.valence)
cell column.DataBytes names info = of_file info.kind (number info.data_len)
cell column.ResourceBytes names info = of_file info.kind (number info.res_len)
cell column.Finder names info = word (hex_text info.finder)
