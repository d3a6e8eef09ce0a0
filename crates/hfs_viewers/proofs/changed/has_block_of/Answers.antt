-- The extent's blocks are blocks of the volume, and none of them was met.
use Rattle.std.proofs.Common.{◌+◌, ◌*◌, ◌<◌, arith}
use Rattle.hfs_space.specs.Forks.{blocks_each}
use Rattle.hfs_space.proofs.ForkLengthLemmas.{extent-end}
use Rattle.hfs_space.proofs.ForkPieces.{same-end}
use Rattle.hfs_viewers.proofs.ChangedLemmas.{all_past}
use Rattle.hfs_viewers.proofs.changed.has_block_of.Goals as goal

pub overflow_add-n-end : goal.overflow_add-n-end
overflow_add-n-end c =
    let some : 0 < c.args.extent.count = omega arith in
    let end = extent-end c.args.mdb.now 4294967295 c.args.extent c.requires.area c.requires.within some in
    omega (arith, same-end _ _ _ _ _ _ (blocks_each c.args.mdb.now) 4294967295 c.from.ensures c.from-2.ensures c.from-3.ensures end)

pub returns : goal.returns
returns c = λ none.
    all_past c.args.changes.now c.args.mdb.now c.args.extent _ _ (λ i. c.from.ensures i + c.from-2.ensures i * blocks_each c.args.mdb.now) (λ i. c.from-3.ensures i * blocks_each c.args.mdb.now)
    (λ k low high. c.loop-n.invariant.none k low (omega (arith, high, c.loop-n-test.false)))
