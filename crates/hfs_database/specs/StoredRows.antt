-- What a taker over memory keeps.
use Rattle.std.specs.Prelude.{List, map}
use Rattle.hfs_database.specs.declared.memory.StoredRow.{StoredRow}
use Rattle.hfs_database.specs.Taken.{TakenRow, row_of}

abbrev pub stored_row : StoredRow → TakenRow
stored_row stored = row_of stored.table stored.values.items

abbrev pub stored_rows : List StoredRow → List TakenRow
stored_rows stored = map stored_row stored
