-- piece by piece
use Rattle.std.proofs.Common.{◌++◌}
use Rattle.std.specs.Prelude.{codes}
use Rattle.hfs_page.specs.Texts.{date_text}
use Rattle.hfs_page.proofs.Joins.{joined, joined-ok}
use Rattle.hfs_remains_page.proofs.row_parts.push_dated.Goals as goal

pub returns : goal.returns
returns c =
    joined-ok c.push_bytes-2.result _ _ _ (codes "<span>" ++ date_text c.args.date) (codes "\n(modified)</span>")
    (joined _ _ _ (codes "<span>") (date_text c.args.date) c.in_ok-push_bytes.ensures c.in_ok-push_date.ensures) c.push_bytes-2.ensures
