-- what is appended and the lines that are left make all
use Rattle.std.proofs.Common.{◌≡◌, ◌++◌, drop}
use Rattle.hfs_database.specs.PageLines.{volumes_text}
use Rattle.hfs_database.proofs.lines.push_volumes.Given as goal

abbrev pub invariant-loop-k : goal.invariant-loop-k
invariant-loop-k l = l.page.items ++ volumes_text l.base l.k (drop l.k l.rows) ≡ l.initial.page.items ++ volumes_text l.base 0 l.rows
