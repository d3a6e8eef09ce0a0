-- The items that the rows of a table represent, as a list.
use Rattle.std.specs.Prelude.{List}
use Rattle.hfs_model.specs.Volume.{Entry}
use Rattle.hfs_viewers.specs.declared.table.Table.{Table}
use Rattle.hfs_viewers.specs.Tables.{item_of, shown}

-- the items of a table's rows with their IDs, in the order of the rows
abbrev pub row_entries : Table → List Entry
row_entries t = shown (item_of t.base t.mdb) t.by_id.entries
