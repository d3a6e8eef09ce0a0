use Rattle.hfs_shared.proofs.Growing.{pair_after, publishes}
use Rattle.hfs_shared.proofs.copies.show_all.Goals as goal

pub publish_as-writer-requires : goal.publish_as-writer-requires
publish_as-writer-requires g c next is = publishes _ _ c.args.front.now c.args.history.now.head.book _ next _ c.args.owed.now c.requires.pair c.requires.none is

pub returns-clause-pair : goal.returns-clause-pair
returns-clause-pair g c = pair_after c.args.front.now c.args.history.now.head.book _ _ _ _ c.args.owed.now c.publish_as-writer.result.1 c.requires.pair c.requires.none c.publish_as-writer.ensures.values
