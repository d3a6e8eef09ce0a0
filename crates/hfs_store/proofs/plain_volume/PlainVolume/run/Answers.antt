use Rattle.std.proofs.Common.{◌+◌, ap, ◌∙◌, arith, List}
use Rattle.hfs_fields.proofs.OutcomeLemmas.{on_err}
use Rattle.hfs_model.specs.declared.reply.Reply.{Reply}
use Rattle.hfs_model.specs.Volume.{Volume}
use Rattle.hfs_store.proofs.Runs.{run_turn}
use Rattle.hfs_store.proofs.plain_volume.PlainVolume.run.Goals as goal

pub returns-in_err-push-clause-err : goal.returns-in_err-push-clause-err
returns-in_err-push-clause-err c =
    on_err c.from_residual-in_err-push.result _ (
      c.loop-call.call-index + 1,
      omega arith,
      ap (λ (r : Volume × List Reply). r.0) (run_turn c.args.self.now c.args.calls.now c.loop-call.call-index c.loop-call.self c.loop-call.replies.items c.call-item.result c.call.new.self c.in_ok-reply.reply c.loop-call-test.true c.call-item.is c.loop-call.invariant c.in_ok-reply.ensures.ok),
    )

pub loop-call-preserved : goal.loop-call-preserved
loop-call-preserved c =
    ap (λ (l : List Reply). (c.call.new.self, l)) c.in_ok-push.ensures.items
    ∙ run_turn c.args.self.now c.args.calls.now c.loop-call.call-index c.loop-call.self c.loop-call.replies.items c.call-item.result c.call.new.self c.in_ok-reply.reply c.loop-call-test.true c.call-item.is c.loop-call.invariant c.in_ok-reply.ensures.ok
