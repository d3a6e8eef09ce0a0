-- The blocks of one run more came.
use Rattle.hfs_blocks.specs.declared.run.Run.{Run}
use Rattle.hfs_space.proofs.RunLemmas.{again_more}
use Rattle.hfs_space.proofs.again.zeros_again.Goals as goal

abbrev none : Run
none = record { first = 0; count = 0; before = 0 }

pub loop-i-preserved : goal.loop-i-preserved
loop-i-preserved c =
    again_more c.args.runs.now c.loop-i.i none c.args.kept.now c.loop-i.again c.put_again.new.again c.loop-i-test.true c.loop-i.invariant c.in_ok-put_again.ensures
