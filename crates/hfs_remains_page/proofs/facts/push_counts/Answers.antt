-- piece by piece
use Rattle.std.proofs.Common.{◌++◌}
use Rattle.std.specs.Prelude.{codes}
use Rattle.hfs_page.specs.Texts.{told_number}
use Rattle.hfs_page.proofs.Joins.{joined, joined-ok}
use Rattle.hfs_remains_page.specs.Facts.{counts_text}
use Rattle.hfs_remains_page.proofs.facts.push_counts.Goals as goal

pub returns : goal.returns
unfolding counts_text
returns c =
    let one = told_number (codes "<div><dt>Files found</dt><dd>") c.args.files in
    let two = told_number (codes "</dd></div>\n<div><dt>Whole</dt><dd>") c.args.whole in
    let three = told_number (codes "</dd></div>\n<div><dt>Damaged</dt><dd>") c.args.damaged in
    let four = told_number (codes "</dd></div>\n<div><dt>Folders found</dt><dd>") c.args.folders in
    joined-ok c.push_bytes.result _ _ _ (one ++ two ++ three ++ four) (codes "</dd></div>\n")
    (joined _ _ _ (one ++ two ++ three) four
    (joined _ _ _ (one ++ two) three (joined _ _ _ one two c.in_ok-push_told_number.ensures c.in_ok-push_told_number-2.ensures) c.in_ok-push_told_number-3.ensures)
    c.in_ok-push_told_number-4.ensures) c.push_bytes.ensures
