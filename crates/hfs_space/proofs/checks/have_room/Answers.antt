-- One more extent's blocks have room.
use Rattle.std.proofs.Common.{◌-◌, ◌*◌, ◌∙◌}
use Rattle.hfs_space.proofs.Rooms.{room-step}
use Rattle.hfs_space.proofs.checks.have_room.Goals as goal

pub loop-extent-preserved : goal.loop-extent-preserved
loop-extent-preserved c =
    c.saturating_sub-rest.ensures ∙ (λ i. c.loop-extent.rest - c.from.ensures i * c.from-each.ensures i)
    ∙ room-step c.args.extents.now c.loop-extent.extent-index (record { first = 0; count = 0 }) c.args.bytes c.args.mdb.now.allocation_block_size c.loop-extent.rest c.loop-extent-test.true
    (c.loop-extent.invariant)
