use Rattle.std.proofs.Common.{◌≡◌, ◌∙◌, ℕ, ◌<◌, List, [], ◌∷◌, length, get_or, false, Result, Ok, Err, sym, ap, subst, arith, length-append}
use Rattle.std.specs.Prelude.{is_err, OnOk}
use Rattle.std.proofs.lemmas.List.{get_or_default}
use Rattle.hfs_model.specs.declared.call.Call.{Call}
use Rattle.hfs_model.specs.declared.reply.Reply.{Reply}
use Rattle.hfs_runs.specs.Views.{AreReads}
use Rattle.hfs_runs.proofs.Reading.{reads_more}
use Rattle.hfs_runs.proofs.viewing.view.Goals as goal

on_ok : {A E : Type 0} {P : Type 0} (r : Result A E) → is_err r ≡ false → OnOk r P → P
on_ok (Ok x) e h = h
on_ok (Err x) e h = absurd (cc e)

pub loop-call-preserved : goal.loop-call-preserved
loop-call-preserved c =
    let i = c.loop-call.invariant in
    let more = on_ok c.view_one.result (sym c.if-is_err.ensures.value) c.view_one.ensures.ok in
    let items = c.deref-call-items.ensures.value in
    let call = c.call-item.result in
    let at = c.loop-call.call-index in
    let below : at < length c.args.calls.now.items = omega (arith, ap length items) in (
      subst (λ (replies : List Reply). AreReads c.args.calls.now.items c.args.viewer.now replies c.view_one.new.viewer) (sym more.grown)
          (reads_more c.args.calls.now.items c.args.viewer.now c.loop-call.replies.items c.loop-call.viewer call more.reply c.view_one.new.viewer (omega (arith, i.1))
          (λ d. ap (λ (n : ℕ). get_or c.args.calls.now.items n d) i.1 ∙ get_or_default c.args.calls.now.items at d call below ∙ ap (λ (l : List Call). get_or l at call) (sym items) ∙ sym c.call-item.is)
          i.0 more.read),
      ap length more.grown ∙ omega (arith, i.1, length-append c.loop-call.replies.items (more.reply ∷ [])),
    )
