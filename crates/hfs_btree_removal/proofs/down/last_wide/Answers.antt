use Rattle.hfs_btree_removal.proofs.WaySteps.{wide-is, one-more, ones-none, ones-all}
use Rattle.std.proofs.Common.{arith}
use Rattle.hfs_btree_removal.proofs.down.last_wide.Goals as goal

pub loop-i-init : goal.loop-i-init
loop-i-init c = ones-none c.args.steps.now

pub returns-then-steps-at-gt1 : goal.returns-then-steps-at-gt1
returns-then-steps-at-gt1 c = wide-is c.args.steps.now c.loop-i.i c.loop-i-test.true c.loop-i.invariant c.if-steps-at-gt1.true

pub loop-i-preserved : goal.loop-i-preserved
loop-i-preserved c = one-more c.args.steps.now c.loop-i.i c.loop-i-test.true c.loop-i.invariant c.if-steps-at-gt1.false

pub returns : goal.returns
returns c = let past = c.loop-i-test.false in ones-all c.args.steps.now c.loop-i.i (omega arith) c.loop-i.invariant
