use Rattle.hfs_store.proofs.Kept.{added}
use Rattle.hfs_store.proofs.changes.add_item.Goals as goal

pub returns-clause-ok : goal.returns-clause-ok
returns-clause-ok c h = added c.args.items.now.items c.push.new.self.items c.touch.new.items.items c.args.id c.args.now c.args.item h c.requires c.in_ok-push.ensures.items c.touch.ensures
