-- Run by run.
use Rattle.hfs_blocks.specs.declared.run.Run.{Run}
use Rattle.hfs_copy.specs.GivenBack.{GainsGivenBack}
use Rattle.hfs_copy.proofs.KeptBlocks.{back-more, back-none, run-of}
use Rattle.hfs_copy.proofs.given_back.keep_given_back.Goals as goal

-- what a list answers behind its end
abbrev none : Run
none = record { first = 0; count = 0; before = 0 }

pub loop-run-init : goal.loop-run-init
loop-run-init c = back-none c.args.changed.now c.args.kept.now

pub loop-run-preserved : goal.loop-run-preserved
loop-run-preserved c =
    run-of (GainsGivenBack c.args.changed.now) (back-more c.args.changed.now) c.args.runs.now c.loop-run.run-index none c.loop-run-test.true c.args.kept.now c.loop-run.kept
    c.keep_changed_zeros_of.new.kept c.loop-run.invariant c.in_ok-keep_changed_zeros_of.ensures
