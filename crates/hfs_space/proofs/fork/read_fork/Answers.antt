-- A fork is read extent by extent.
use Rattle.std.proofs.Common.{◌≡◌, ◌*◌, ◌++◌, take, drop, get_or, refl, sym, ◌∙◌, arith}
use Rattle.hfs_fields.specs.declared.extent.Extent.{Extent}
use Rattle.hfs_space.specs.Forks.{blocks_each}
use Rattle.hfs_space.specs.ForkLengths.{all_bytes}
use Rattle.hfs_space.proofs.ForkPieces.{fork-start, fork-more, fork-end}
use Rattle.hfs_space.proofs.fork.read_fork.Goals as goal

pub loop-extent-init : goal.loop-extent-init
loop-extent-init g c =
    let all = all_bytes (g.B.Blocks.blocks c.args.blocks.now) c.args.mdb.now c.args.extents.now in
    (λ i. c.in_ok-bytes.ensures.items i ++ take c.saturating_sub-rest.result (drop (c.from-skip.ensures i) all))
    ∙ fork-start (g.B.Blocks.blocks c.args.blocks.now) c.args.mdb.now c.args.extents.now c.args.length c.args.offset c.args.count c.saturating_sub-rest.result (omega arith)

pub loop-extent-preserved : goal.loop-extent-preserved
loop-extent-preserved g c =
    let none : Extent = record { first = 0; count = 0 } in
    let i = c.loop-extent.extent-index in
    let extent = get_or c.args.extents.now i none in
    let size : c.from-in-loop-extent.result * c.from-each.result * 512 ≡ extent.count * blocks_each c.args.mdb.now * 512 = (λ t. c.from-in-loop-extent.ensures t * c.from-each.ensures t * 512) in
    fork-more (g.B.Blocks.blocks c.args.blocks.now) c.args.mdb.now (g.B.Blocks.total c.args.blocks.now) (λ n lt. g.met.B.Blocks.whole c.args.blocks.now n lt) c.requires.area
    c.args.extents.now i extent none c.loop-extent.skip c.loop-extent.rest c.min-passed.result c.min-more.result (c.from-in-loop-extent.result * c.from-each.result * 512)
    c.loop-extent.bytes.items c.read_extent.new.bytes.items
    c.loop-extent-test.true refl (c.requires.extents i none c.loop-extent-test.true) size c.min-passed.ensures c.min-more.ensures c.in_ok-read_extent.ensures
    ∙ c.loop-extent.invariant

pub returns : goal.returns
returns g c =
    sym (fork-end (g.B.Blocks.blocks c.args.blocks.now) c.args.mdb.now c.args.extents.now c.loop-extent.extent-index c.loop-extent.skip c.loop-extent.rest c.loop-extent.bytes.items (omega arith))
    ∙ c.loop-extent.invariant
