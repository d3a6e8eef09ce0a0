-- piece by piece
use Rattle.std.proofs.Common.{◌++◌}
use Rattle.std.specs.Prelude.{codes}
use Rattle.hfs_page.specs.Escapes.{escaped}
use Rattle.hfs_page.proofs.Joins.{joined, joined-ok}
use Rattle.hfs_remains_places.specs.Verdicts.{verdict_text}
use Rattle.hfs_remains_page.specs.Verdicts.{damaged_text}
use Rattle.hfs_remains_page.proofs.verdicts.push_damaged.Goals as goal

pub returns : goal.returns
unfolding damaged_text
returns c =
    let one = codes "<em class=\"damaged\">data fork " in
    let two = one ++ escaped (verdict_text c.args.forks.now.0) in
    let three = two ++ codes "; resource fork " in
    let four = three ++ escaped (verdict_text c.args.forks.now.1) in
    joined-ok c.push_bytes-3.result _ _ _ four (codes "</em>")
    (joined _ _ _ three (escaped (verdict_text c.args.forks.now.1))
    (joined _ _ _ two (codes "; resource fork ")
    (joined _ _ _ one (escaped (verdict_text c.args.forks.now.0)) c.in_ok-push_bytes.ensures c.in_ok-push_said.ensures) c.in_ok-push_bytes-2.ensures)
    c.in_ok-push_said-2.ensures) c.push_bytes-3.ensures
