-- what came so far is appended
use Rattle.std.proofs.Common.{◌≡◌, ◌++◌, string_bytes, take}
use Rattle.std.specs.List.{flat_map}
use Rattle.hfs_word_put.specs.Lines.{line_of}
use Rattle.hfs_word_put.proofs.lines.push_all.Given as goal

abbrev pub invariant-loop-one : goal.invariant-loop-one
invariant-loop-one l = string_bytes l.text ≡ string_bytes l.initial.text ++ flat_map (line_of l.items) (take l.one-index l.refused)
