use Rattle.hfs_store.proofs.Kept.{becomes_read_under}
use Rattle.hfs_store.proofs.changes.set_parent.Goals as goal

pub returns : goal.returns
returns c d = becomes_read_under c.args.items.now.items c.args.at c.index_mut.result.now d c.args.parent c.index_mut.ensures.value c.requires.within c.requires.room
