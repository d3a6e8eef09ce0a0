-- piece by piece
use Rattle.hfs_page.specs.Document.{refused_page}
use Rattle.hfs_page.proofs.Joins.{joined, joined-ok}
use Rattle.hfs_page.proofs.document.push_refused_page.Goals as goal

pub returns : goal.returns
unfolding refused_page
returns c = joined-ok c.push_bytes-5.result _ _ _ _ _ (joined _ _ _ _ _ (joined _ _ _ _ _ (joined _ _ _ _ _ (joined _ _ _ _ _ (joined _ _ _ _ _ (joined _ _ _ _ _ (joined _ _ _ _ _ (joined _ _ _ _ _ c.in_ok-push_head.ensures c.in_ok-push_bytes.ensures) c.in_ok-push_image_rows.ensures) c.in_ok-push_bytes-2.ensures) c.in_ok-push_escaped.ensures) c.in_ok-push_bytes-3.ensures) c.in_ok-push_escaped-2.ensures) c.in_ok-push_bytes-4.ensures) c.in_ok-push_version.ensures) c.push_bytes-5.ensures
