-- what is appended and the cells that are left make all
use Rattle.std.proofs.Common.{◌≡◌, ◌++◌, drop}
use Rattle.hfs_page.specs.Picture.{cells_text}
use Rattle.hfs_page.proofs.picture.push_cells.Given as goal

abbrev pub invariant-loop-k : goal.invariant-loop-k
invariant-loop-k l = l.page.items ++ cells_text l.records l.k (drop l.k l.cells) ≡ l.initial.page.items ++ cells_text l.records 0 l.cells
