-- piece by piece
use Rattle.hfs_page.specs.Items.{sizes_text}
use Rattle.hfs_page.proofs.Joins.{joined, joined-ok}
use Rattle.hfs_page.proofs.items.push_sizes.Goals as goal

pub returns : goal.returns
unfolding sizes_text
returns c = joined-ok c.push_bytes.result _ _ _ _ _ (joined _ _ _ _ _ (joined _ _ _ _ _ c.in_ok-push_both.ensures c.in_ok-push_fork.ensures) c.in_ok-push_fork-2.ensures) c.push_bytes.ensures
