-- the first values came so far
use Rattle.std.proofs.Common.{◌≡◌, ◌++◌, map, take}
use Rattle.sqlite.specs.Values.{bound}
use Rattle.hfs_database.specs.Values.{sql_value}
use Rattle.hfs_database.proofs.values.push_parameters.Given as goal

abbrev pub invariant-loop-value : goal.invariant-loop-value
invariant-loop-value l = bound l.parameters.items ≡ bound l.initial.parameters.items ++ map sql_value (take l.value-index l.values)
