-- the cells so far
use Rattle.std.proofs.Common.{◌≡◌, ◌*◌, map}
use Rattle.std.specs.List.{range_with_len}
use Rattle.hfs_page.specs.Cells.{cell_at}
use Rattle.hfs_page.proofs.cells.picture_cells.Given as goal

abbrev pub invariant-loop-k : goal.invariant-loop-k
invariant-loop-k l = l.cells.items ≡ map (λ k. cell_at l.uses l.per_cell (k * l.per_cell)) (range_with_len 0 l.k)
