use Rattle.std.proofs.Common.{refl}
use Rattle.hfs_remains_forks.proofs.OwnerLemmas.{step-places}
use Rattle.hfs_remains_forks.proofs.owners.add_owners.Goals as goal

pub loop-place-preserved : goal.loop-place-preserved
loop-place-preserved c =
    step-places c.args.places.now c.loop-place.place-index _ c.args.counts.now c.loop-place.counts c.add_owner.new.counts c.loop-place-test.true refl c.loop-place.invariant c.add_owner.ensures
