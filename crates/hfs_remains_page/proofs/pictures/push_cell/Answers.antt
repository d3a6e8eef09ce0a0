-- piece by piece
use Rattle.hfs_remains_page.specs.Pictures.{cell_text}
use Rattle.hfs_page.proofs.Joins.{joined, joined-ok}
use Rattle.hfs_remains_page.proofs.pictures.push_cell.Goals as goal

pub returns : goal.returns
unfolding cell_text
returns c =
    joined-ok c.push_bytes.result _ _ _ _ _
    (joined _ _ _ _ _ (joined _ _ _ _ _ c.in_ok-push_rect_head.ensures c.in_ok-push_blocks.ensures) c.in_ok-push_use.ensures)
    c.push_bytes.ensures
