-- What one call gives a taker.
use Rattle.std.specs.Prelude.{List}
use Rattle.hfs_database.specs.declared.given.GivenRow.{GivenRow}
use Rattle.hfs_database.specs.Taken.{TakenRow, with_row}

abbrev pub with_given : List TakenRow → GivenRow → List TakenRow
with_given given row = with_row given row.table row.values.now
