use Rattle.std.proofs.Common.{refl, sym, ◌∙◌, take, arith}
use Rattle.hfs_space.specs.Extents.{extent_blocks}
use Rattle.hfs_remains_forks.specs.Forks.{there}
use Rattle.hfs_remains_forks.proofs.BlockLemmas.{start-blocks, step-extent, all-extents, there-listed}
use Rattle.hfs_remains_forks.proofs.forks.places_in.Goals as goal

pub loop-extent-init : goal.loop-extent-init
loop-extent-init c = start-blocks (there c.args.total c.args.mdb.now) c.new-places.result.items c.args.wanted (extent_blocks c.args.extents.now) c.new-places.ensures.items

pub loop-extent-preserved : goal.loop-extent-preserved
loop-extent-preserved c =
    step-extent (there c.args.total c.args.mdb.now) c.loop-extent.places.items c.push_extent.new.places.items c.args.wanted c.loop-extent.extent-index c.args.extents.now _ _
    c.loop-extent-test.true refl c.in_ok-push_extent.ensures
    ∙ c.loop-extent.invariant

pub returns-clause-places : goal.returns-clause-places
returns-clause-places c =
    sym (all-extents (there c.args.total c.args.mdb.now) c.loop-extent.places.items c.args.wanted c.loop-extent.extent-index c.args.extents.now (omega arith)) ∙ c.loop-extent.invariant

pub returns-clause-there : goal.returns-clause-there
returns-clause-there c =
    there-listed c.args.total c.args.mdb.now (take c.args.wanted (extent_blocks c.args.extents.now)) c.loop-extent.places.items
    (sym (all-extents (there c.args.total c.args.mdb.now) c.loop-extent.places.items c.args.wanted c.loop-extent.extent-index c.args.extents.now (omega arith)) ∙ c.loop-extent.invariant)
