-- The pieces of a run more came.
use Rattle.hfs_word_take.proofs.PieceLemmas.{run_more}
use Rattle.hfs_word_take.proofs.pieces.pieces_of.Goals as goal

pub loop-run-preserved : goal.loop-run-preserved
loop-run-preserved c image =
    run_more image c.loop-run.pieces.items c.push_run.new.pieces.items c.args.runs.now c.loop-run.run-index _ _ c.loop-run-test.true
    (c.in_ok-push_run.ensures image) (c.loop-run.invariant image)
