use Rattle.std.proofs.Common.{◌≡◌, ℕ, ◌<◌, List, [], ◌∷◌, length, get_or, true, false, Option, Some, None, refl, sym, ap, ◌∙◌, subst, arith, length-append}
use Rattle.std.specs.Prelude.{is_some, IfSome, IfNone, OnSome}
use Rattle.std.proofs.lemmas.List.{get_or_default}
use Rattle.hfs_model.proofs.Facts.{not_some}
use Rattle.hfs_model.specs.declared.call.Call.{Call}
use Rattle.hfs_model.specs.declared.reply.Reply.{Reply}
use Rattle.hfs_shared.specs.Tolds.{ToldState}
use Rattle.hfs_shared.specs.declared.desk.CallFault.{CallFault}
use Rattle.hfs_shared.specs.Desks.{PassState}
use Rattle.hfs_shared.specs.Faults.{IsFaultUnder}
use Rattle.hfs_shared.specs.Plans.{IsPlanned}
use Rattle.hfs_shared.specs.Works.{later, IsWork}
use Rattle.hfs_shared.proofs.Working.{work_more}
use Rattle.hfs_shared.proofs.workers.work.Goals.{else-loop-call-test, then-loop-call-test+then-is_some}
use Rattle.hfs_shared.proofs.workers.work.Goals as goal

if_none : {A : Type 0} {P : Type 0} (o : Option A) → is_some o ≡ false → IfNone o P → P
if_none None e h = h
if_none (Some x) e h = absurd (cc e)

on_some : {A : Type 0} {P : Type 0} (o : Option A) → is_some o ≡ true → OnSome o P → P
on_some None e h = absurd (cc e)
on_some (Some x) e h = h

not_none : {A : Type 0} {P : Type 0} (o : Option A) → is_some o ≡ true → o ≡ None → P
not_none None e h = absurd (cc e)
not_none (Some x) e h = absurd (cc h)

of_none : {A : Type 0} (P : A → Type 0) (o : Option A) → o ≡ None → IfSome o P
of_none P None e = tt
of_none P (Some x) e = absurd (cc e)

-- the next call is the planned one
pub one_more-fault-requires : goal.one_more-fault-requires
one_more-fault-requires g c =
    let i = c.loop-call.invariant in
    let at = c.loop-call.call-index in
    let items = c.deref-call-items.ensures.value in
    let call = c.call-item.result in
    let p = c.args.done.now.pass in
    let below : at < length c.args.calls.now.items = omega (arith, ap length items) in
    let pass : later p at ≡ c.loop-call.done.pass = sym (i.0.pass ∙ ap (later p) i.1) in
    let same : get_or c.args.calls.now.items at call ≡ call = ap (λ (l : List Call). get_or l at call) (sym items) ∙ sym c.call-item.is in
    subst (λ (y : PassState × Call). IsPlanned g.K.Session.plan y.0.worker y.0.number y.1) (λ j. (pass j, same j)) (c.requires at call below)

pub loop-call-preserved : goal.loop-call-preserved
loop-call-preserved g c =
    let i = c.loop-call.invariant in
    let none = sym c.if-is_some.ensures in
    let more = if_none c.one_more-fault.result none c.one_more-fault.ensures.none in
    let items = c.deref-call-items.ensures.value in
    let call = c.call-item.result in
    let at = c.loop-call.call-index in
    let below : at < length c.args.calls.now.items = omega (arith, ap length items) in (
      work_more g.K.Session.book g.K.Session.base g.K.Session.plan c.args.done.now.pass c.args.calls.now.items c.loop-call.done.pass c.one_more-fault.new.pass c.loop-call.replies.items c.one_more-fault.new.replies.items
          call i.0 (omega (arith, i.1))
          (λ d. ap (λ (n : ℕ). get_or c.args.calls.now.items n d) i.1 ∙ get_or_default c.args.calls.now.items at d call below ∙ ap (λ (l : List Call). get_or l at call) (sym items) ∙ sym c.call-item.is)
          more,
      ap length more.grown ∙ omega (arith, i.1, length-append c.loop-call.replies.items ((more.reply, more.told) ∷ [])),
      not_some c.one_more-fault.result none,
    )

pub returns : goal.returns
returns g c =
    let i = c.loop-call.invariant in
    let calls = c.args.calls.now.items in
    let end = c.loop-call-test in
    let Work : PassState → List (Reply × ToldState) → Type 0 = λ q replies. IsWork g.K.Session.book g.K.Session.base g.K.Session.plan c.args.done.now.pass calls q replies in
    let work : Work end.done.pass end.replies.items =
    elim end.branch as (λ _. Work end.done.pass end.replies.items) [
      | else-loop-call-test w ↦
          subst (λ (y : PassState × List (Reply × ToldState)). Work y.0 y.1) (λ j. (sym (ap (λ d. d.pass) w.done-is) j, sym (ap (λ v. v.items) w.replies-is) j)) i.0
      | then-loop-call-test+then-is_some w ↦
          (let same = on_some w.one_more-fault.result (sym w.if-is_some.ensures) w.one_more-fault.ensures.some in
          subst (λ (y : PassState × List (Reply × ToldState)). Work y.0 y.1) (λ j. (sym (ap (λ d. d.pass) w.done-is ∙ same.1) j, sym (ap (λ v. v.items) w.replies-is ∙ same.0) j)) i.0)
    ] in
    let whole : end.fault ≡ None → length end.replies.items ≡ length calls =
    elim end.branch as (λ _. end.fault ≡ None → length end.replies.items ≡ length calls) [
      | else-loop-call-test w ↦ λ none. ap (λ v. length v.items) w.replies-is ∙ omega (arith, i.1, ap length c.deref-call-items.ensures.value)
      | then-loop-call-test+then-is_some w ↦ λ none. not_none w.one_more-fault.result (sym w.if-is_some.ensures) (sym w.fault-is ∙ none)
    ] in
    let Refused : Option CallFault → PassState → Type 0 = λ fault q. IfSome fault (IsFaultUnder q.number) in
    let refused : Refused end.fault end.done.pass =
    elim end.branch as (λ _. Refused end.fault end.done.pass) [
      | else-loop-call-test w ↦ of_none (IsFaultUnder end.done.pass.number) end.fault (w.fault-is ∙ i.2)
      | then-loop-call-test+then-is_some w ↦
          (let same = on_some w.one_more-fault.result (sym w.if-is_some.ensures) w.one_more-fault.ensures.some in
          subst (λ (y : Option CallFault × PassState). Refused y.0 y.1) (λ j. (sym w.fault-is j, sym (ap (λ d. d.pass) w.done-is ∙ same.1) j)) w.one_more-fault.ensures.fault)
    ] in
    record { work = work; whole = whole; refused = refused }
