-- piece by piece
use Rattle.std.proofs.Common.{◌++◌}
use Rattle.std.specs.Prelude.{codes}
use Rattle.hfs_page.specs.Facts.{date_row}
use Rattle.hfs_page.specs.Facts.{dates_text}
use Rattle.hfs_page.proofs.Joins.{joined, joined-ok}
use Rattle.hfs_page.proofs.facts.push_dates.Goals as goal

pub returns : goal.returns
unfolding dates_text
returns c = joined-ok c.push_date_row-3.result _ _ _ ((date_row (codes "Created") c.args.mdb.now.created) ++ (date_row (codes "Modified") c.args.mdb.now.modified)) (date_row (codes "Backup") c.args.mdb.now.backup) (joined _ _ _ (date_row (codes "Created") c.args.mdb.now.created) (date_row (codes "Modified") c.args.mdb.now.modified) c.in_ok-push_date_row.ensures c.in_ok-push_date_row-2.ensures) c.push_date_row-3.ensures
