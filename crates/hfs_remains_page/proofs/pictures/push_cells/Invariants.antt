-- what is appended and the cells that are left make all
use Rattle.std.proofs.Common.{◌≡◌, ◌++◌, drop}
use Rattle.hfs_remains_page.specs.Pictures.{cells_text}
use Rattle.hfs_remains_page.proofs.pictures.push_cells.Given as goal

abbrev pub invariant-loop-k : goal.invariant-loop-k
invariant-loop-k l = l.page.items ++ cells_text l.items l.k (drop l.k l.cells) ≡ l.initial.page.items ++ cells_text l.items 0 l.cells
