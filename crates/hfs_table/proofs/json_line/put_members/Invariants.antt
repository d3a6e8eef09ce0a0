-- what came so far is put
use Rattle.std.proofs.Common.{◌≡◌, ◌++◌, take}
use Rattle.std.specs.List.{flat_map}
use Rattle.hfs_table.specs.Lines.{member}
use Rattle.hfs_table.proofs.json_line.put_members.Given as goal

abbrev pub invariant-loop-column : goal.invariant-loop-column
invariant-loop-column l = record {
  before : l.object.before ≡ l.initial.object.before;
  tokens : l.object.tokens ≡ l.initial.object.tokens ++ flat_map (member l.names l.info) (take l.column-index l.columns);
}
