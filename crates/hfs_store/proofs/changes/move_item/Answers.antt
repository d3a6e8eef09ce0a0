use Rattle.hfs_store.proofs.Kept.{becomes_more}
use Rattle.hfs_store.proofs.changes.move_item.Goals as goal

pub returns : goal.returns
returns c d = becomes_more _ _ _ _ _ (becomes_more _ _ _ _ _ (c.set_parent.ensures d) c.touch.ensures) c.touch-2.ensures
