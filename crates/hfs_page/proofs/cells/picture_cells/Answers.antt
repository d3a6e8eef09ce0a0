-- one more cell
use Rattle.std.proofs.Common.{◌*◌, ◌++◌, [], ◌∷◌, sym, ◌∙◌, arith}
use Rattle.std.proofs.lemmas.List.FromFn.{map-range_with_len_more}
use Rattle.hfs_page.specs.Cells.{cell_at}
use Rattle.hfs_page.proofs.cells.picture_cells.Goals as goal

pub loop-k-preserved : goal.loop-k-preserved
loop-k-preserved c =
    c.in_ok-push.ensures.items ∙ (λ i. c.loop-k.invariant i ++ c.cell_at.ensures i ∷ [])
    ∙ sym (map-range_with_len_more (λ k. cell_at c.args.uses.now c.blocks_per_cell-per_cell.result (k * c.blocks_per_cell-per_cell.result)) 0 c.loop-k.k c.loop-k.k (omega arith))
