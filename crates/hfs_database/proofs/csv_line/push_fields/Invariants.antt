-- what came so far is appended
use Rattle.std.proofs.Common.{◌≡◌, ◌++◌, take}
use Rattle.std.specs.Prelude.{codes}
use Rattle.std.specs.List.{flat_map}
use Rattle.hfs_database.specs.declared.column.Column.{Column}
use Rattle.hfs_database.specs.Keys.{cell}
use Rattle.hfs_database.specs.RowLines.{field}
use Rattle.hfs_database.proofs.csv_line.push_fields.Given as goal

abbrev pub invariant-loop-column : goal.invariant-loop-column
invariant-loop-column l =
    l.text.items ≡ l.initial.text.items ++ flat_map (λ (column : Column). codes "," ++ field (cell l.keys l.values column.origin)) (take l.column-index l.columns)
