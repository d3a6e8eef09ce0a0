-- The extents before the offset are passed, and the bytes behind it are read.
use Rattle.std.proofs.Common.{◌≡◌, ◌+◌, ◌-◌, ◌*◌, ◌∙◌, take, get_or, refl, ap, arith}
use Rattle.hfs_fields.specs.declared.extent.Extent.{Extent}
use Rattle.hfs_space.specs.Forks.{blocks_each}
use Rattle.hfs_volume.proofs.ExtentBytes.{byte_count, passed, there_are, nothing_left}
use Rattle.hfs_volume.proofs.extent_bytes.read_extents.Goals as goal

pub loop-place-preserved : goal.loop-place-preserved
loop-place-preserved g c =
    let none : Extent = record { first = 0; count = 0 } in
    let extent = get_or c.args.extents.now c.loop-place.place.extent none in
    let size : c.from-in-loop-place.result * c.from-each.result * 512 ≡ extent.count * blocks_each c.args.mdb.now * 512 = (λ t. c.from-in-loop-place.ensures t * c.from-each.ensures t * 512) in
    passed (g.B.Blocks.blocks c.args.blocks.now) (g.B.Blocks.total c.args.blocks.now) (λ n lt. g.met.B.Blocks.whole c.args.blocks.now n lt) c.args.mdb.now c.requires.area
    c.args.extents.now c.loop-place.place.extent extent none c.loop-place.place.passed _ c.loop-place-test.true refl (c.requires.extents c.loop-place.place.extent none c.loop-place-test.true) size (omega arith)
    ∙ c.loop-place.invariant

pub returns-then-place-size : goal.returns-then-place-size
returns-then-place-size g c =
    let lack : c.lacking-lack.result ≡ c.args.offset + c.args.count - byte_count c.args.mdb.now c.args.extents.now =
    c.lacking-lack.ensures ∙ (λ t. c.from.ensures t + c.from-2.ensures t - byte_count c.args.mdb.now c.args.extents.now) in
    let there : c.saturating_sub-there.result ≡ c.args.count - c.lacking-lack.result = c.saturating_sub-there.ensures ∙ ap (λ n. n - c.lacking-lack.result) c.from-3.ensures in
    c.in_ok-bytes.ensures.bytes
    ∙ ap (take c.saturating_sub-there.result) c.loop-place.invariant
    ∙ there_are (g.B.Blocks.blocks c.args.blocks.now) (g.B.Blocks.total c.args.blocks.now) (λ n lt. g.met.B.Blocks.whole c.args.blocks.now n lt) c.args.mdb.now c.requires.area
    c.args.extents.now c.requires.extents c.args.offset c.args.count c.lacking-lack.result _ lack there

pub returns : goal.returns
returns g c =
    c.new.ensures.items
    ∙ nothing_left (g.B.Blocks.blocks c.args.blocks.now) c.args.mdb.now c.args.extents.now c.loop-place.place.extent c.loop-place.place.passed c.args.count _ c.loop-place-test.false c.loop-place.invariant
