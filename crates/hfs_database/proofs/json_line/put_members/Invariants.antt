-- what came so far is put
use Rattle.std.proofs.Common.{◌≡◌, ◌++◌, take}
use Rattle.std.specs.List.{flat_map}
use Rattle.hfs_database.specs.declared.column.Column.{Column}
use Rattle.hfs_database.specs.Columns.{told_column}
use Rattle.hfs_database.specs.RowLines.{member}
use Rattle.hfs_database.proofs.json_line.put_members.Given as goal

abbrev pub invariant-loop-column : goal.invariant-loop-column
invariant-loop-column l = record {
  before : l.writer.before ≡ l.initial.writer.before;
  tokens : l.writer.tokens ≡ l.initial.writer.tokens ++ flat_map (λ (column : Column). member l.keys l.values (told_column column)) (take l.column-index l.columns);
}
