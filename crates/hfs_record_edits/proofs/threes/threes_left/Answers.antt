-- One more three begins before the block.
use Rattle.std.proofs.Common.{arith}
use Rattle.hfs_record_edits.proofs.ThreeLemmas.{left-three, left-few, left-next}
use Rattle.hfs_record_edits.proofs.threes.threes_left.Goals as goal

pub blocks_at-blocks-requires-in-loop-left-clause-within : goal.blocks_at-blocks-requires-in-loop-left-clause-within
blocks_at-blocks-requires-in-loop-left-clause-within c = left-three c.args.count c.args.extents.now c.loop-left.left c.loop-left.blocks c.loop-left.invariant c.loop-left-test.true

pub blocks_at-blocks-requires-in-loop-left-clause-few : goal.blocks_at-blocks-requires-in-loop-left-clause-few
blocks_at-blocks-requires-in-loop-left-clause-few c =
    let sum = left-few c.args.count c.args.extents.now c.loop-left.left c.loop-left.blocks c.loop-left.invariant c.requires.few in
    omega (arith, sum)

pub overflow_add-blocks : goal.overflow_add-blocks
overflow_add-blocks c =
    let sum = left-few c.args.count c.args.extents.now c.loop-left.left c.loop-left.blocks c.loop-left.invariant c.requires.few in
    record { fits = omega (arith, sum, c.blocks_at-blocks-in-loop-left.ensures) }

pub loop-left-preserved : goal.loop-left-preserved
loop-left-preserved c =
    left-next c.args.count c.args.extents.now c.loop-left.left c.loop-left.blocks c.blocks_at-blocks-in-loop-left.result c.loop-left.invariant c.loop-left-test.true c.if-blocks-count.true c.blocks_at-blocks-in-loop-left.ensures
