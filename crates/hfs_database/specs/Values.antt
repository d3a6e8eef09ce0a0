-- Values of a row as SQLite has them.
use Rattle.std.specs.Prelude.{pos}
use Rattle.hfs_database.specs.declared.value.RowValue.{RowValue}
use Rattle.hfs_database.specs.declared.value.RowValue.TheVariants as row
use Rattle.sqlite.specs.declared.types.Value.{Value}
use Rattle.sqlite.specs.declared.types.Value.TheVariants.{Null, Int, Text}

abbrev pub sql_value : RowValue → Value
sql_value row.Empty = Null
sql_value (row.Number n) = Int (pos n)
sql_value (row.Text text) = Text text
