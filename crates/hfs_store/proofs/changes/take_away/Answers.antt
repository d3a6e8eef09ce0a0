use Rattle.hfs_store.proofs.Kept.{becomes_removed}
use Rattle.hfs_store.proofs.changes.take_away.Goals as goal

pub returns : goal.returns
returns c d = rw c.remove.ensures.items (becomes_removed c.args.items.now.items c.args.at d c.requires)
