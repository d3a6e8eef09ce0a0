-- what came so far is appended
use Rattle.std.proofs.Common.{◌≡◌, ◌++◌, take}
use Rattle.std.specs.List.{flat_map}
use Rattle.hfs_scripts.specs.Texts.{tabbed}
use Rattle.hfs_scripts.proofs.writing.push_fields.Given as goal

abbrev pub invariant-loop-field : goal.invariant-loop-field
invariant-loop-field l = l.text.items ≡ l.initial.text.items ++ flat_map tabbed (take l.field-index l.fields)
