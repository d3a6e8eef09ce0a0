-- piece by piece
use Rattle.hfs_remains_page.specs.Pages.{front_text}
use Rattle.hfs_page.proofs.Joins.{joined, joined-ok}
use Rattle.hfs_remains_page.proofs.document.push_front.Goals as goal

pub returns : goal.returns
unfolding front_text
returns c =
    joined-ok c.push_bytes-2.result _ _ _ _ _
    (joined _ _ _ _ _ (joined _ _ _ _ _ (joined _ _ _ _ _ c.in_ok-push_named_head.ensures c.in_ok-push_fault.ensures) c.in_ok-push_facts.ensures) c.in_ok-push_bytes.ensures)
    c.push_bytes-2.ensures
