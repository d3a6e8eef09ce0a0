-- A fork is read on extent by extent.
use Rattle.std.proofs.Common.{◌≡◌, ◌*◌, ◌≤◌, get_or, refl, arith}
use Rattle.hfs_fields.specs.declared.extent.Extent.{Extent}
use Rattle.hfs_space.specs.Forks.{blocks_each}
use Rattle.hfs_space.proofs.ForkPieces.{next-read, next-rest, last-read, last-rest, end-read, end-rest}
use Rattle.hfs_space.proofs.fork.read_on.Goals as goal

pub returns-then-at-size-clause-bytes : goal.returns-then-at-size-clause-bytes
returns-then-at-size-clause-bytes g c =
    let none : Extent = record { first = 0; count = 0 } in
    let extent = get_or c.args.extents.now c.loop-at.at.extent none in
    let size : c.from.result * c.from-each.result * 512 ≡ extent.count * blocks_each c.args.mdb.now * 512 = (λ t. c.from.ensures t * c.from-each.ensures t * 512) in
    let fits : c.loop-at.at.passed ≤ c.from.result * c.from-each.result * 512 = omega (arith, size, c.loop-at.invariant.place none c.loop-at-test.true) in
    last-read (g.B.Blocks.blocks c.args.blocks.now) c.args.mdb.now (g.B.Blocks.total c.args.blocks.now) (λ n lt. g.met.B.Blocks.whole c.args.blocks.now n lt) c.requires.area
    c.args.extents.now c.loop-at.at.extent extent none c.loop-at.at.passed c.loop-at.rest c.min-more.result (c.from.result * c.from-each.result * 512)
    c.loop-at-test.true refl (c.requires.extents c.loop-at.at.extent none c.loop-at-test.true) size fits c.min-more.ensures
    c.loop-at.bytes.items c.read_extent.new.bytes.items _ c.if-at-size.true c.in_ok-read_extent.ensures c.loop-at.invariant.read

pub returns-then-at-size-clause-rest : goal.returns-then-at-size-clause-rest
returns-then-at-size-clause-rest g c =
    let none : Extent = record { first = 0; count = 0 } in
    let extent = get_or c.args.extents.now c.loop-at.at.extent none in
    let size : c.from.result * c.from-each.result * 512 ≡ extent.count * blocks_each c.args.mdb.now * 512 = (λ t. c.from.ensures t * c.from-each.ensures t * 512) in
    let fits : c.loop-at.at.passed ≤ c.from.result * c.from-each.result * 512 = omega (arith, size, c.loop-at.invariant.place none c.loop-at-test.true) in
    last-rest (g.B.Blocks.blocks c.args.blocks.now) c.args.mdb.now (g.B.Blocks.total c.args.blocks.now) (λ n lt. g.met.B.Blocks.whole c.args.blocks.now n lt) c.requires.area
    c.args.extents.now c.loop-at.at.extent extent none c.loop-at.at.passed c.loop-at.rest c.min-more.result (c.from.result * c.from-each.result * 512)
    c.loop-at-test.true refl (c.requires.extents c.loop-at.at.extent none c.loop-at-test.true) size fits c.min-more.ensures
    _ c.if-at-size.true c.loop-at.invariant.behind

pub loop-at-preserved : goal.loop-at-preserved
loop-at-preserved g c =
    let none : Extent = record { first = 0; count = 0 } in
    let extent = get_or c.args.extents.now c.loop-at.at.extent none in
    let size : c.from.result * c.from-each.result * 512 ≡ extent.count * blocks_each c.args.mdb.now * 512 = (λ t. c.from.ensures t * c.from-each.ensures t * 512) in
    let fits : c.loop-at.at.passed ≤ c.from.result * c.from-each.result * 512 = omega (arith, size, c.loop-at.invariant.place none c.loop-at-test.true) in
    record {
      place = λ d lt. omega arith;
      read = next-read (g.B.Blocks.blocks c.args.blocks.now) c.args.mdb.now (g.B.Blocks.total c.args.blocks.now) (λ n lt. g.met.B.Blocks.whole c.args.blocks.now n lt) c.requires.area
          c.args.extents.now c.loop-at.at.extent extent none c.loop-at.at.passed c.loop-at.rest c.min-more.result (c.from.result * c.from-each.result * 512)
          c.loop-at-test.true refl (c.requires.extents c.loop-at.at.extent none c.loop-at-test.true) size fits c.min-more.ensures
          c.loop-at.bytes.items c.read_extent.new.bytes.items _ c.in_ok-read_extent.ensures c.loop-at.invariant.read;
      behind = next-rest (g.B.Blocks.blocks c.args.blocks.now) c.args.mdb.now (g.B.Blocks.total c.args.blocks.now) (λ n lt. g.met.B.Blocks.whole c.args.blocks.now n lt) c.requires.area
          c.args.extents.now c.loop-at.at.extent extent none c.loop-at.at.passed c.loop-at.rest c.min-more.result (c.from.result * c.from-each.result * 512)
          c.loop-at-test.true refl (c.requires.extents c.loop-at.at.extent none c.loop-at-test.true) size fits c.min-more.ensures
          _ (omega (arith, c.if-at-size.false)) c.loop-at.invariant.behind;
    }

pub returns-clause-bytes : goal.returns-clause-bytes
returns-clause-bytes g c =
    end-read (g.B.Blocks.blocks c.args.blocks.now) c.args.mdb.now c.args.extents.now c.loop-at.at.extent c.loop-at.at.passed c.loop-at.rest
    (omega (arith, c.loop-at-test.false)) c.loop-at.bytes.items _ c.loop-at.invariant.read

pub returns-clause-rest : goal.returns-clause-rest
returns-clause-rest g c =
    end-rest (g.B.Blocks.blocks c.args.blocks.now) c.args.mdb.now c.args.extents.now c.loop-at.at.extent c.loop-at.at.passed c.loop-at.rest
    (omega (arith, c.loop-at-test.false)) _ c.loop-at.invariant.behind
