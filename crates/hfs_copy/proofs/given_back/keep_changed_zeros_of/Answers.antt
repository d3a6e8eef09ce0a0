-- Block by block.
use Rattle.hfs_copy.specs.GivenBack.{GainsGivenBack}
use Rattle.hfs_copy.proofs.KeptBlocks.{back-more, back-none, next-of}
use Rattle.hfs_copy.proofs.given_back.keep_changed_zeros_of.Goals as goal

pub loop-i-init : goal.loop-i-init
loop-i-init c = back-none c.args.changed.now c.args.kept.now

pub loop-i-preserved : goal.loop-i-preserved
loop-i-preserved c =
    next-of (GainsGivenBack c.args.changed.now) (back-more c.args.changed.now) c.args.first c.loop-i.i c.args.kept.now c.loop-i.kept c.keep_changed_zeros.new.kept c.loop-i.invariant
    c.in_ok-keep_changed_zeros.ensures
