use Rattle.std.proofs.Common.{refl}
use Rattle.hfs_remains_forks.proofs.ShareLemmas.{step-owners}
use Rattle.hfs_remains_forks.proofs.salvage.own_items.Goals as goal

pub loop-item-preserved : goal.loop-item-preserved
loop-item-preserved c =
    step-owners c.args.trees.now.total c.args.chains.now c.args.trees.now.mdb.now c.args.young c.args.shares.now c.loop-item.item-index _ c.args.owners.now c.loop-item.owners c.own_item.new.owners
    c.loop-item-test.true refl c.loop-item.invariant c.in_ok-own_item.ensures
