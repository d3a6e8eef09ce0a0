-- piece by piece
use Rattle.hfs_page.specs.Facts.{facts_text}
use Rattle.hfs_page.proofs.Joins.{joined, joined-ok}
use Rattle.hfs_page.proofs.facts.push_facts.Goals as goal

pub returns : goal.returns
unfolding facts_text
returns c = joined-ok c.push_bytes.result _ _ _ _ _ (joined _ _ _ _ _ (joined _ _ _ _ _ (joined _ _ _ _ _ (joined _ _ _ _ _ (joined _ _ _ _ _ c.in_ok-push_facts_start.ensures c.in_ok-push_image_rows.ensures) c.in_ok-push_lengths.ensures) c.in_ok-push_dates.ensures) c.in_ok-push_counts.ensures) c.in_ok-push_sizes.ensures) c.push_bytes.ensures
