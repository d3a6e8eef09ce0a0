-- The rows of a volume's items.
use Rattle.std.specs.Prelude.{ℕ, ◌+◌, Bool, List, [], ◌∷◌, ◌++◌, codes, Result, Ok, Err}
use Rattle.hfs_model.specs.declared.call.Fork.{Fork}
use Rattle.hfs_model.specs.declared.call.Fork.TheVariants.{DataFork, ResFork}
use Rattle.hfs_model.specs.declared.reply.Info.{Info}
use Rattle.hfs_model.specs.declared.reply.ItemKind.{ItemKind}
use Rattle.hfs_model.specs.declared.reply.ItemKind.TheVariants.{Folder, File}
use Rattle.hfs_model.specs.declared.reply.Reply.{Reply}
use Rattle.hfs_model.specs.Volume.{Entry}
use Rattle.hfs_table.specs.Columns.{cell}
use Rattle.hfs_table.specs.Lines.{bag_path}
use Rattle.hfs_table.specs.declared.column.Column.{Column}
use Rattle.hfs_table.specs.declared.column.Column.TheVariants as column
use Rattle.hfs_items.specs.ToldRows.{ToldRow, told_rows}
use Rattle.hfs_image.specs.Forks.{named_fork}
use Rattle.hfs_database.specs.declared.value.RowValue.{RowValue}
use Rattle.hfs_database.specs.declared.value.RowValue.TheVariants.{Empty, Number, Text}
use Rattle.hfs_database.specs.declared.value.Table.TheVariants.{Item}
use Rattle.hfs_database.specs.Taken.{TakenRow, row_of}
use Rattle.hfs_word_collect.specs.Values.{cell_value, digest_value, where_taken}

-- ---- the columns

-- what stands in a column of the volume's table, alone in a list
abbrev pub told_in : Column → List (List ℕ) → Info → List RowValue
told_in column names info = cell_value (cell column names info) ∷ []

-- of a column in which no path stands
abbrev pub told_of : Column → Info → List RowValue
told_of column info = told_in column [] info

-- number, paths, kind, ID, parent
unfoldable pub place_values : ℕ → List (List ℕ) → Info → List RowValue
place_values number names info =
    Number number ∷ [] ++ told_in column.Path names info ++ Text (bag_path names) ∷ [] ++ told_of column.Kind info ++ told_of column.Id info ++ told_of column.Parent info

-- type, creator, flags, locked, file ID
unfoldable pub mark_values : Info → List RowValue
mark_values info = told_of column.Type info ++ told_of column.Creator info ++ told_of column.Flags info ++ told_of column.Locked info ++ told_of column.FileId info

-- created, modified, backup
unfoldable pub date_values : Info → List RowValue
date_values info = told_of column.Created info ++ told_of column.Modified info ++ told_of column.Backup info

-- items, bytes of both forks, Finder's bytes
unfoldable pub size_values : Info → List RowValue
size_values info = told_of column.Items info ++ told_of column.DataBytes info ++ told_of column.ResourceBytes info ++ told_of column.Finder info

-- ---- the forks

-- what is told of a file alone
abbrev pub file_value : ItemKind → RowValue → RowValue
file_value Folder value = Empty
file_value File value = value

-- the digest of a fork, and nothing where there is none
abbrev pub found_digest : Result (List ℕ) Reply → RowValue
found_digest (Ok bytes) = digest_value bytes
found_digest (Err reply) = Empty

-- the digest of a fork of an item, where digests are taken
abbrev pub fork_digest : Bool → List Entry → Info → Fork → RowValue
fork_digest taken es info fork = where_taken taken (file_value info.kind (found_digest (named_fork es info.parent info.name fork)))

-- the verdict on each fork of a file of a sound volume
abbrev pub fork_verdict : ItemKind → RowValue
fork_verdict kind = file_value kind (Text (codes "whole"))

-- both digests, and both verdicts
unfoldable pub fork_values : ItemKind → RowValue → RowValue → List RowValue
fork_values kind data_digest resource_digest =
    data_digest ∷ [] ++ resource_digest ∷ [] ++ fork_verdict kind ∷ [] ++ fork_verdict kind ∷ []

-- ---- the rows

unfoldable pub item_values : ℕ → List (List ℕ) → Info → RowValue → RowValue → List RowValue
item_values number names info data_digest resource_digest =
    place_values number names info ++ mark_values info ++ date_values info ++ size_values info ++ fork_values info.kind data_digest resource_digest

-- the row of an item of the volume with these entries
abbrev pub item_row : Bool → List Entry → ℕ → ToldRow → TakenRow
item_row taken es number row = row_of Item (item_values number row.path row.info (fork_digest taken es row.info DataFork) (fork_digest taken es row.info ResFork))

-- their rows, with numbers from this one on
abbrev pub item_rows_from : Bool → List Entry → ℕ → List ToldRow → List TakenRow
item_rows_from taken es number [] = []
item_rows_from taken es number (row ∷ rest) = item_row taken es number row ∷ item_rows_from taken es (number + 1) rest

-- the rows of all items of a volume
abbrev pub item_rows : Bool → List Entry → List TakenRow
item_rows taken es = item_rows_from taken es 0 (told_rows es)
