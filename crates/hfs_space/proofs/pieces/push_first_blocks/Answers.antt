-- One more run.
use Rattle.std.proofs.Common.{◌-◌, ◌∙◌, ap, arith}
use Rattle.hfs_space.proofs.Firsts.{firsts-more, firsts-stop, firsts-end}
use Rattle.hfs_space.proofs.pieces.push_first_blocks.Goals as goal

pub loop-run-preserved : goal.loop-run-preserved
loop-run-preserved c = record {
  more = firsts-more c.args.runs.now c.loop-run.run-index c.loop-run.rest c.loop-run.pieces.items _ c.loop-run.invariant.more
      _ _ _ c.loop-run-test.true (λ e. omega (arith, e)) c.first_of.ensures (c.saturating_sub-rest.ensures ∙ ap (λ n. c.loop-run.rest - n) c.from.ensures) c.in_ok-push.ensures.items;
}

pub returns-then-rest-eq0 : goal.returns-then-rest-eq0
returns-then-rest-eq0 c = firsts-stop c.args.runs.now c.loop-run.run-index c.loop-run.rest c.loop-run.pieces.items _ c.loop-run.invariant.more (omega arith)

pub returns : goal.returns
returns c = firsts-end c.args.runs.now c.loop-run.run-index c.loop-run.rest c.loop-run.pieces.items _ c.loop-run.invariant.more (omega arith)
