-- One more extent.
use Rattle.std.proofs.Common.{arith}
use Rattle.hfs_record_edits.specs.Lengthened.{none}
use Rattle.hfs_record_edits.proofs.ThreeLemmas.{part-more, part-most}
use Rattle.hfs_record_edits.proofs.threes.blocks_at.Goals as goal

pub overflow_add-total : goal.overflow_add-total
overflow_add-total c =
    let more = part-more c.args.extents.now c.args.at c.args.count c.loop-i.i none c.loop-i-test.true c.requires.within in
    let most = part-most c.args.extents.now c.args.at c.args.count c.loop-i.i c.loop-i-test.true in
    record { fits = omega (arith, more, most, c.from-total.ensures, c.loop-i.invariant.counted, c.requires.few) }

pub loop-i-preserved : goal.loop-i-preserved
loop-i-preserved c =
    let more = part-more c.args.extents.now c.args.at c.args.count c.loop-i.i none c.loop-i-test.true c.requires.within in
    record { few = omega (arith, c.loop-i-test.true); counted = omega (arith, more, c.from-total.ensures, c.loop-i.invariant.counted) }
