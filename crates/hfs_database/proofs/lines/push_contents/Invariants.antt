-- what came so far is appended
use Rattle.std.proofs.Common.{◌≡◌, ◌++◌, take}
use Rattle.hfs_database.specs.PageLines.{contents_text}
use Rattle.hfs_database.proofs.lines.push_contents.Given as goal

abbrev pub invariant-loop-row : goal.invariant-loop-row
invariant-loop-row l = l.page.items ≡ l.initial.page.items ++ contents_text (take l.row-index l.rows)
