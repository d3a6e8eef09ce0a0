-- piece by piece
use Rattle.std.proofs.Common.{◌++◌}
use Rattle.std.specs.Prelude.{codes}
use Rattle.hfs_page.specs.Escapes.{escaped}
use Rattle.hfs_page.specs.Facts.{row_head, text_row}
use Rattle.hfs_page.proofs.Joins.{joined, joined-ok}
use Rattle.hfs_page.proofs.facts.push_text_row.Goals as goal

pub returns : goal.returns
unfolding text_row
returns c =
    joined-ok c.push_bytes.result _ _ _ (row_head c.args.label.now ++ escaped c.args.text.now) (codes "</dd></div>\n")
    (joined _ _ _ (row_head c.args.label.now) (escaped c.args.text.now) c.in_ok-push_row_head.ensures c.in_ok-push_escaped.ensures) c.push_bytes.ensures
