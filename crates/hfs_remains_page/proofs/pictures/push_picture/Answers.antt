-- piece by piece
use Rattle.hfs_remains_page.specs.Pictures.{picture_text}
use Rattle.hfs_page.proofs.Joins.{joined, joined-ok}
use Rattle.hfs_remains_page.proofs.pictures.push_picture.Goals as goal

pub returns : goal.returns
unfolding picture_text
returns c =
    joined-ok c.push_bytes-2.result _ _ _ _ _
    (joined _ _ _ _ _ (joined _ _ _ _ _ c.in_ok-push_rows.ensures c.in_ok-push_bytes.ensures) c.in_ok-push_cells.ensures)
    c.push_bytes-2.ensures
