-- The extents are counted one by one.
use Rattle.std.proofs.Common.{◌≡◌, ◌+◌, ◌-◌, ◌*◌, drop, get_or, refl, ◌∙◌, ap, arith}
use Rattle.hfs_fields.specs.declared.extent.Extent.{Extent}
use Rattle.hfs_space.specs.Forks.{blocks_each}
use Rattle.hfs_volume.proofs.ExtentBytes.{byte_count, lacked, none_behind}
use Rattle.hfs_volume.proofs.extent_bytes.lacking.Goals as goal

pub loop-extent-init : goal.loop-extent-init
loop-extent-init c = refl

pub loop-extent-preserved : goal.loop-extent-preserved
loop-extent-preserved c =
    let none : Extent = record { first = 0; count = 0 } in
    let i = c.loop-extent.extent-index in
    let extent = get_or c.args.extents.now i none in
    let size : c.from.result * c.from-each.result * 512 ≡ extent.count * blocks_each c.args.mdb.now * 512 = (λ t. c.from.ensures t * c.from-each.ensures t * 512) in
    ap (λ n. n - byte_count c.args.mdb.now (drop (i + 1) c.args.extents.now)) c.saturating_sub-left.ensures
    ∙ lacked c.args.mdb.now c.args.extents.now i c.loop-extent.left _ extent none c.loop-extent-test.true refl size ∙ c.loop-extent.invariant

pub returns : goal.returns
returns c = omega (arith, none_behind c.args.mdb.now c.args.extents.now c.loop-extent.extent-index (omega arith), c.loop-extent.invariant)
