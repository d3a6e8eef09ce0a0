-- piece by piece
use Rattle.std.proofs.Common.{◌++◌}
use Rattle.std.specs.Prelude.{codes}
use Rattle.hfs_page.specs.Facts.{dates_text, image_rows}
use Rattle.hfs_page.proofs.Joins.{joined, joined-ok}
use Rattle.hfs_remains_page.specs.Facts.{blocks_rows, facts_start, facts_text, sums_text}
use Rattle.hfs_remains_page.proofs.facts.push_facts.Goals as goal

pub returns : goal.returns
unfolding facts_text
returns c =
    let found = c.args.found.now in
    let one = facts_start in
    let two = one ++ image_rows c.args.image.now in
    let three = two ++ sums_text found in
    let four = three ++ dates_text found.mdb.now in
    let five = four ++ blocks_rows found.mdb.now in
    joined-ok c.push_bytes-2.result _ _ _ five (codes "</dl>\n")
    (joined _ _ _ four (blocks_rows found.mdb.now)
    (joined _ _ _ three (dates_text found.mdb.now)
    (joined _ _ _ two (sums_text found) (joined _ _ _ one (image_rows c.args.image.now) c.in_ok-push_bytes.ensures c.in_ok-push_image_rows.ensures) c.in_ok-push_sums.ensures)
    c.in_ok-push_dates.ensures) c.in_ok-push_blocks_rows.ensures) c.push_bytes-2.ensures
