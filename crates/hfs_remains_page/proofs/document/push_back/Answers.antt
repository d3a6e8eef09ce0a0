-- piece by piece
use Rattle.std.proofs.Common.{◌++◌}
use Rattle.std.specs.Prelude.{codes}
use Rattle.hfs_page.specs.Extents.{extents_text}
use Rattle.hfs_page.proofs.Joins.{joined, joined-ok}
use Rattle.hfs_remains_page.specs.Pages.{back_by, end_text}
use Rattle.hfs_remains_page.specs.Pictures.{picture_text}
use Rattle.hfs_remains_page.proofs.document.push_back.Goals as goal

pub returns : goal.returns
unfolding back_by
returns c =
    let two = codes "</ul>\n</section>\n" ++ picture_text c.args.items.now c.args.cells.now in
    let three = two ++ extents_text c.args.holdings.now in
    joined-ok c.push_end.result _ _ _ (three ++ c.args.texts.now.legend.now) (end_text c.args.texts.now)
    (joined _ _ _ three c.args.texts.now.legend.now
    (joined _ _ _ two (extents_text c.args.holdings.now)
    (joined _ _ _ (codes "</ul>\n</section>\n") (picture_text c.args.items.now c.args.cells.now) c.in_ok-push_bytes.ensures c.in_ok-push_picture.ensures)
    c.in_ok-push_extents.ensures) c.in_ok-push_bytes-2.ensures) c.push_end.ensures
