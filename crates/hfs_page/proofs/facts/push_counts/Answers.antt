-- piece by piece
use Rattle.std.specs.Prelude.{codes}
use Rattle.hfs_page.specs.Facts.{count_row}
use Rattle.hfs_page.specs.Facts.{counts_text}
use Rattle.hfs_page.proofs.Joins.{joined-ok}
use Rattle.hfs_page.proofs.facts.push_counts.Goals as goal

pub returns : goal.returns
unfolding counts_text
returns c = joined-ok c.push_count_row-2.result _ _ _ (count_row (codes "Files") c.args.mdb.now.files) (count_row (codes "Folders") c.args.mdb.now.folders) c.in_ok-push_count_row.ensures c.push_count_row-2.ensures
