-- piece by piece
use Rattle.std.proofs.Common.{◌++◌}
use Rattle.std.specs.Prelude.{codes}
use Rattle.hfs_page.specs.Facts.{row_head}
use Rattle.hfs_page.proofs.Joins.{joined, joined-ok}
use Rattle.hfs_page.proofs.facts.push_row_head.Goals as goal

pub returns : goal.returns
unfolding row_head
returns c = joined-ok c.push_bytes-3.result _ _ _ ((codes "<div><dt>") ++ (c.args.label.now)) (codes "</dt><dd>") (joined _ _ _ (codes "<div><dt>") (c.args.label.now) c.in_ok-push_bytes.ensures c.in_ok-push_bytes-2.ensures) c.push_bytes-3.ensures
