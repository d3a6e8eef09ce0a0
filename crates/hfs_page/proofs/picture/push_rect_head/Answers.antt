-- piece by piece
use Rattle.std.proofs.Common.{◌++◌, ◌/◌, ◌%◌}
use Rattle.std.specs.Prelude.{codes}
use Rattle.hfs_page.specs.Texts.{told_number}
use Rattle.hfs_page.specs.Parts.{rank}
use Rattle.hfs_page.specs.Picture.{rect_head}
use Rattle.hfs_page.proofs.Joins.{joined, joined-ok}
use Rattle.hfs_page.proofs.picture.push_rect_head.Goals as goal

pub returns : goal.returns
unfolding rect_head
returns c = joined-ok c.push_bytes.result _ _ _ (((told_number (codes "<rect x=\"") (c.args.place % 64)) ++ (told_number (codes "\" y=\"") (c.args.place / 64))) ++ (told_number (codes "\" width=\"1\" height=\"1\" class=\"p") (rank c.args.part))) (codes "\"><title>") (joined _ _ _ ((told_number (codes "<rect x=\"") (c.args.place % 64)) ++ (told_number (codes "\" y=\"") (c.args.place / 64))) (told_number (codes "\" width=\"1\" height=\"1\" class=\"p") (rank c.args.part)) (joined _ _ _ (told_number (codes "<rect x=\"") (c.args.place % 64)) (told_number (codes "\" y=\"") (c.args.place / 64)) c.in_ok-push_told_count.ensures c.in_ok-push_told_count-2.ensures) c.in_ok-push_class.ensures) c.push_bytes.ensures
