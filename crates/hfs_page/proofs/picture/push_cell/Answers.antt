-- piece by piece
use Rattle.std.proofs.Common.{◌++◌}
use Rattle.std.specs.Prelude.{codes}
use Rattle.hfs_page.specs.Picture.{rect_head, blocks_text, use_text}
use Rattle.hfs_page.specs.Picture.{cell_text}
use Rattle.hfs_page.proofs.Joins.{joined, joined-ok}
use Rattle.hfs_page.proofs.picture.push_cell.Goals as goal

pub returns : goal.returns
unfolding cell_text
returns c = joined-ok c.push_bytes.result _ _ _ (((rect_head c.args.place c.args.cell.now.used.part) ++ (blocks_text c.args.cell.now.first c.args.cell.now.last)) ++ (use_text c.args.records.now c.args.cell.now.used)) (codes "</title></rect>\n") (joined _ _ _ ((rect_head c.args.place c.args.cell.now.used.part) ++ (blocks_text c.args.cell.now.first c.args.cell.now.last)) (use_text c.args.records.now c.args.cell.now.used) (joined _ _ _ (rect_head c.args.place c.args.cell.now.used.part) (blocks_text c.args.cell.now.first c.args.cell.now.last) c.in_ok-push_rect_head.ensures c.in_ok-push_blocks.ensures) c.in_ok-push_use.ensures) c.push_bytes.ensures
