use Rattle.std.proofs.Common.{◌≡◌, ℕ, ◌≤◌, List, length, sym, ap, ◌∙◌, subst}
use Rattle.hfs_check.specs.Agree.{AgreesBut}
use Rattle.hfs_check.specs.VolumeOf.{volume_of}
use Rattle.hfs_model.specs.declared.journal.Entry.{Entry}
use Rattle.hfs_model.specs.Runs.{after}
use Rattle.hfs_shared.specs.Journals.{IsLegal, published}
use Rattle.hfs_shared.specs.Closings.{AreAllPasses, HasNoOthers}
use Rattle.hfs_shared.specs.Plans.{ArePlanned}
use Rattle.hfs_shared.specs.Stages.{stage, HaveMadeOf}
use Rattle.hfs_shared.proofs.locked.Locked.close.Goals as goal

pub returns-clause-ok : goal.returns-clause-ok
returns-clause-ok g c =
    let e = c.end.ensures in
    let passes = c.args.passes.items in
    let all : AreAllPasses passes c.args.self.workers c.args.self.journal = c.if-not-are_all.ensures in
    let base : c.args.self.base ≡ g.K.Session.base = e.headline.base_is in
    let headline = e.headline.headline in
    record {
      base_is = e.base ∙ base;
      agrees = subst (λ (y : List ℕ × List ℕ × List ℕ). AgreesBut y.0 y.1 y.2) (λ i. (sym e.written i, base i, sym e.current i)) headline.agrees;
      made = subst (λ (y : List ℕ × List Entry × List ℕ × List ℕ). HaveMadeOf y.0 y.1 (stage y.2 y.3)) (λ i. (base i, sym e.journal i, sym e.current i, sym e.written i)) headline.made;
      legal = subst (λ (y : List ℕ × List Entry). IsLegal (volume_of y.0) y.1) (λ i. (base i, sym e.journal i)) headline.legal;
      follows = ap volume_of e.current ∙ headline.follows ∙ (λ i. after (volume_of (base i)) (sym e.journal i));
      all = subst (λ (y : ℕ × List Entry). AreAllPasses passes y.0 y.1) (λ i. (sym all.many i, sym e.journal i)) all;
      others = subst (λ (y : ℕ × List Entry). HasNoOthers y.0 y.1) (λ i. (sym all.many i, sym e.journal i)) e.others;
      seen = c.teach.ensures.seen ∙ (λ i. published (volume_of g.K.Session.base) (sym e.journal i) (sym e.shown i));
      within = subst (λ (y : ℕ × List Entry). y.0 ≤ length y.1) (λ i. (sym e.shown i, sym e.journal i)) e.headline.within;
      begins = c.teach.ensures.begins;
    }

pub returns-clause-planned : goal.returns-clause-planned
returns-clause-planned g c = subst (ArePlanned g.K.Session.plan) (sym c.end.ensures.journal) c.end.ensures.headline.planned
