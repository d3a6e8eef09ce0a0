-- piece by piece
use Rattle.std.proofs.Common.{◌++◌, length}
use Rattle.std.specs.Prelude.{codes}
use Rattle.hfs_page.specs.Texts.{told_number}
use Rattle.std.specs.Int.{div_ceil}
use Rattle.hfs_page.specs.Picture.{cells_text}
use Rattle.hfs_page.specs.Picture.{picture_text}
use Rattle.hfs_page.proofs.Joins.{joined, joined-ok}
use Rattle.hfs_page.proofs.picture.push_picture.Goals as goal

pub returns : goal.returns
unfolding picture_text
returns c = joined-ok c.push_bytes-2.result _ _ _ (((told_number (codes "<section id=\"blocks\">\n<h2>Blocks</h2>\n<svg id=\"picture\" role=\"group\" aria-label=\"The blocks of the disk\" viewBox=\"0 0 64 ") (div_ceil (length c.args.cells.now) 64)) ++ (codes "\">\n")) ++ (cells_text c.args.records.now 0 c.args.cells.now)) (codes "</svg>\n") (joined _ _ _ ((told_number (codes "<section id=\"blocks\">\n<h2>Blocks</h2>\n<svg id=\"picture\" role=\"group\" aria-label=\"The blocks of the disk\" viewBox=\"0 0 64 ") (div_ceil (length c.args.cells.now) 64)) ++ (codes "\">\n")) (cells_text c.args.records.now 0 c.args.cells.now) (joined _ _ _ (told_number (codes "<section id=\"blocks\">\n<h2>Blocks</h2>\n<svg id=\"picture\" role=\"group\" aria-label=\"The blocks of the disk\" viewBox=\"0 0 64 ") (div_ceil (length c.args.cells.now) 64)) (codes "\">\n") c.in_ok-push_rows.ensures c.in_ok-push_bytes.ensures) c.in_ok-push_cells.ensures) c.push_bytes-2.ensures
