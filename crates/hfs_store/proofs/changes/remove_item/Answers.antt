use Rattle.hfs_store.proofs.Kept.{becomes_more}
use Rattle.hfs_store.proofs.changes.remove_item.Goals as goal

pub returns : goal.returns
returns c d = becomes_more _ _ _ _ _ (c.take_away.ensures d) c.touch.ensures
