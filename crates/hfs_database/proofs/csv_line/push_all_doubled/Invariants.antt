-- what came so far is appended
use Rattle.std.proofs.Common.{◌≡◌, ◌++◌, take}
use Rattle.std.specs.List.{flat_map}
use Rattle.hfs_table.specs.Lines.{doubled}
use Rattle.hfs_database.proofs.csv_line.push_all_doubled.Given as goal

abbrev pub invariant-loop-byte : goal.invariant-loop-byte
invariant-loop-byte l = l.text.items ≡ l.initial.text.items ++ flat_map doubled (take l.byte-index l.bytes)
