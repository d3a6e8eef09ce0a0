use Rattle.std.proofs.Common.{◌≡◌, ℕ, ◌<◌, ◌≤◌, ◌+◌, ◌-◌, List, ◌∷◌, ◌++◌, [], length, sym, ap, ◌∙◌, subst}
use Rattle.std.specs.Prelude.{slice_set}
use Rattle.std.proofs.lemmas.List.{length-set}
use Rattle.hfs_model.specs.declared.journal.Entry.{Entry}
use Rattle.hfs_check.specs.Agree.{AgreesBut}
use Rattle.hfs_check.specs.VolumeOf.{volume_of}
use Rattle.hfs_volume.specs.Serving.{IsOutcomeIn}
use Rattle.hfs_shared.specs.Journals.{made_by}
use Rattle.hfs_shared.specs.Desks.{DeskState, IsHeadline, IsCounted, wanted, entry_of, pass_state}
use Rattle.hfs_shared.specs.Stages.{stage, HasMade}
use Rattle.hfs_shared.proofs.Headline.{entry_makes, headline_more, counted_more, wanted_known}
use Rattle.hfs_model.proofs.ModelLawsProved.{step_is_never_full}
use Rattle.hfs_shared.proofs.desk.Desk.apply.Goals as goal

-- the journal has one entry more
items_is : (c : goal.After-raise) → c.push_reserved.new.self.items ≡ c.self.inside.journal.items ++ entry_of c.args.pass.now c.args.call.now c.in-Ok-call.reply ∷ []
items_is c =
    c.push_reserved.ensures.items
    ∙ ap (λ (e : Entry). c.reserve.new.self.items ++ e ∷ []) c.entry.ensures
    ∙ (λ i. c.reserve.ensures.items i ++ entry_of (pass_state (c.worker-worker.ensures i) (c.number-number.ensures.value i)) (c.in-Ok.ensures i) c.in-Ok-call.reply ∷ [])

-- the pass's number is the one wanted
is_wanted : (c : goal.After-raise) → c.number-number.result ≡ wanted (length c.self.inside.next.items) c.self.inside.journal.items c.args.pass.now.worker
is_wanted c =
    c.if-number-wanted.false
    ∙ c.wanted-wanted.ensures
    ∙ ap (λ (s : DeskState). wanted s.workers s.journal c.worker.result) (sym c.self.view_is)
    ∙ ap (λ (w : ℕ). wanted (length c.self.inside.next.items) c.self.inside.journal.items w) c.worker.ensures

is_known : (c : goal.After-raise) → let p = c.args.pass.now in let n = length c.self.inside.next.items in let journal = c.self.inside.journal.items in
    (1 ≤ p.worker) × (p.worker ≤ n) × (wanted n journal p.worker ≡ made_by p.worker journal + 1)
is_known c = wanted_known (length c.self.inside.next.items) c.self.inside.journal.items c.args.pass.now.worker (subst (λ (k : ℕ). 0 < k) (is_wanted c) c.number-number.ensures.positive)

number_is : (c : goal.After-raise) → c.args.pass.now.number ≡ made_by c.args.pass.now.worker c.self.inside.journal.items + 1
number_is c = (let known = is_known c in sym c.number-number.ensures.value ∙ is_wanted c ∙ known.2)

-- the image that the entry made of the one before
made_is : (c : goal.After-raise) → let v = c.self.inside.volume in let w = c.call.new.self in HasMade (entry_of c.args.pass.now c.args.call.now c.in-Ok-call.reply) (stage v.current v.written) (stage w.current w.written)
made_is c =
    entry_makes step_is_never_full c.self.inside.volume c.call.new.self c.args.pass.now c.args.call.now c.in-Ok-call.reply c.self.invariant.0.agrees.sound c.in-Ok-call.ensures.outcome c.in-Ok-call.ensures.written c.in-Ok-call.ensures.refused

headline_is : (c : goal.After-raise) → IsHeadline c.call.new.self.base c.call.new.self.current c.call.new.self.written c.push_reserved.new.self.items
headline_is c =
    let w = c.call.new.self in
    let agrees : AgreesBut w.written c.self.inside.volume.base w.current = subst (λ (b : List ℕ). AgreesBut w.written b w.current) c.call.ensures.base c.agrees_with_base.ensures.agrees in
    subst (λ (y : List ℕ × List Entry). IsHeadline y.0 w.current w.written y.1) (λ i. (sym c.call.ensures.base i, sym (items_is c) i))
    (headline_more step_is_never_full c.self.inside.volume.base c.self.inside.volume w c.self.inside.journal.items c.args.pass.now c.args.call.now c.in-Ok-call.reply
    c.self.invariant.0 c.in-Ok-call.ensures.outcome (made_is c) (number_is c) agrees)

pub invariant_of-self-2 : goal.invariant_of-self-2
invariant_of-self-2 c =
    let p = c.args.pass.now in
    let next = c.self.inside.next.items in
    let journal = c.self.inside.journal.items in
    let e = entry_of p c.args.call.now c.in-Ok-call.reply in
    let known = is_known c in (
      headline_is c,
      subst (λ (js : List Entry). IsCounted (slice_set next (c.worker-worker.result - 1) (c.number-number.result + 1)) js) (sym (items_is c))
          (subst (λ (y : ℕ × ℕ). IsCounted (slice_set next (y.0 - 1) (y.1 + 1)) (journal ++ e ∷ []))
          (λ i. (sym c.worker-worker.ensures i, sym c.number-number.ensures.value i))
          (counted_more next journal e c.self.invariant.1 known.0 known.1 (number_is c))),
    )

pub returns-clause-ok : goal.returns-clause-ok
returns-clause-ok c =
    let p = c.args.pass.now in
    let same = c.self.view_is in
    let e = entry_of p c.args.call.now c.in-Ok-call.reply in
    record {
      base = c.call.ensures.base ∙ ap (λ (s : DeskState). s.base) same;
      workers = length-set c.self.inside.next.items _ _ ∙ ap (λ (s : DeskState). s.workers) same;
      journal = items_is c ∙ ap (λ (s : DeskState). s.journal ++ e ∷ []) same;
      pass = c.raise.ensures;
      wanted_is = sym c.number-number.ensures.value ∙ is_wanted c ∙ ap (λ (s : DeskState). wanted s.workers s.journal p.worker) same;
      outcome = subst (λ (s : DeskState). IsOutcomeIn s.current c.args.call.now (volume_of c.call.new.self.current, c.in-Ok-call.reply)) same c.in-Ok-call.ensures.outcome;
      reading = λ reads. ap (λ v. v.current) (c.call.ensures.reading reads) ∙ ap (λ (s : DeskState). s.current) same;
      refused = λ other. ap (λ v. v.current) (c.in-Ok-call.ensures.refused other) ∙ ap (λ (s : DeskState). s.current) same;
      made = subst (λ (s : DeskState). HasMade e (stage s.current s.written) (stage c.call.new.self.current c.call.new.self.written)) same (made_is c);
      headline = subst (λ (s : DeskState). IsHeadline s.base s.current s.written s.journal) same c.self.invariant.0;
      headline_after = headline_is c;
    }
