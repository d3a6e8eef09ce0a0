-- The first of the calls were made, and at the end all of them.
use Rattle.std.proofs.Common.{◌∙◌, ◌+◌, ◌++◌, List, [], ◌∷◌, arith, refl, sym, subst, take}
use Rattle.hfs_model.specs.declared.reply.Reply.{Reply}
use Rattle.hfs_volume.specs.Steps.{AreMade, AreServed}
use Rattle.hfs_volume.proofs.RunSteps.{first_made, first_served, next_made, next_served, none_more, none_unserved}
use Rattle.hfs_volume.proofs.volume.Volume.run.Goals as goal

pub returns-in_err-push-clause-broken : goal.returns-in_err-push-clause-broken
returns-in_err-push-clause-broken c =
    first_made c.from_residual-in_err-push.result c.args.self.now.current c.args.calls.now (c.loop-call.replies.items ++ c.in_ok-reply.reply ∷ []) c.call.new.self.current c.loop-call.call-index c.loop-call-test.true
    (next_made c.args.self.now.current c.args.calls.now c.loop-call.replies.items c.loop-call.self.current c.loop-call.call-index c.call-item.result c.in_ok-reply.reply c.call.new.self.current
    c.loop-call-test.true (sym c.call-item.is) c.loop-call.invariant.made c.in_ok-reply.ensures.outcome)

pub loop-call-preserved : goal.loop-call-preserved
loop-call-preserved c = record {
  base = c.in_ok-reply.ensures.base ∙ c.loop-call.invariant.base;
  made = subst (λ (rs : List Reply). AreMade c.args.self.now.current (take (c.loop-call.call-index + 1) c.args.calls.now) rs c.call.new.self.current) (sym c.in_ok-push.ensures.items)
      (next_made c.args.self.now.current c.args.calls.now c.loop-call.replies.items c.loop-call.self.current c.loop-call.call-index c.call-item.result c.in_ok-reply.reply c.call.new.self.current
      c.loop-call-test.true (sym c.call-item.is) c.loop-call.invariant.made c.in_ok-reply.ensures.outcome);
  served = subst (λ (rs : List Reply). AreServed c.args.self.now (take (c.loop-call.call-index + 1) c.args.calls.now) rs c.call.new.self) (sym c.in_ok-push.ensures.items)
      (next_served c.args.self.now c.args.calls.now c.loop-call.replies.items c.loop-call.self c.loop-call.call-index c.call-item.result c.in_ok-reply.reply c.call.new.self
      c.loop-call-test.true (sym c.call-item.is) c.loop-call.invariant.served c.in_ok-reply.ensures.outcome c.in_ok-reply.ensures.written);
}

pub returns-clause-made : goal.returns-clause-made
returns-clause-made c =
    none_more c.args.self.now.current c.args.calls.now c.loop-call.replies.items c.loop-call.self.current c.loop-call.call-index c.loop-call-test.false c.loop-call.invariant.made

pub returns-in_err-push-clause-broken_off : goal.returns-in_err-push-clause-broken_off
returns-in_err-push-clause-broken_off c =
    let below = c.loop-call-test.true in
    first_served c.from_residual-in_err-push.result c.args.self.now c.args.calls.now (c.loop-call.replies.items ++ c.in_ok-reply.reply ∷ []) c.call.new.self c.call.new.self (c.loop-call.call-index + 1) (omega (arith, below))
    (next_served c.args.self.now c.args.calls.now c.loop-call.replies.items c.loop-call.self c.loop-call.call-index c.call-item.result c.in_ok-reply.reply c.call.new.self
    below (sym c.call-item.is) c.loop-call.invariant.served c.in_ok-reply.ensures.outcome c.in_ok-reply.ensures.written) refl refl

pub returns-clause-served : goal.returns-clause-served
returns-clause-served c = none_unserved c.args.self.now c.args.calls.now c.loop-call.replies.items c.loop-call.self c.loop-call.call-index c.loop-call-test.false c.loop-call.invariant.served

pub returns-in_err-reply-clause-broken_off : goal.returns-in_err-reply-clause-broken_off
returns-in_err-reply-clause-broken_off c =
    let below = c.loop-call-test.true in
    first_served c.from_residual.result c.args.self.now c.args.calls.now c.loop-call.replies.items c.loop-call.self c.call.new.self c.loop-call.call-index (omega (arith, below))
    c.loop-call.invariant.served c.in_err-reply.ensures.unchanged c.in_err-reply.ensures.unwritten
