use Rattle.std.proofs.Common.{◌≡◌, List, length, drop, sym, ap, ◌∙◌, subst, ⊎_elim, arith}
use Rattle.hfs_model.specs.declared.journal.Entry.{Entry}
use Rattle.hfs_check.specs.VolumeOf.{volume_of}
use Rattle.hfs_shared.specs.Histories.{known}
use Rattle.hfs_shared.specs.Journals.{published, NoneAccepted}
use Rattle.hfs_shared.specs.Tolds.{told}
use Rattle.hfs_shared.specs.Lockeds.{LockedState}
use Rattle.hfs_shared.proofs.Showing.{none_later, idle_gathers, locked_published, told_published, under_lock}
use Rattle.hfs_shared.proofs.PublishedLawsProved.{published_grows}
use Rattle.hfs_shared.proofs.locked.Locked.publish.Goals as goal

pub returns-clause-idle : goal.returns-clause-idle
returns-clause-idle g c = λ (none : NoneAccepted (drop c.args.self.now.shown c.args.self.now.journal)).
    let l = c.self.inside in
    let entries = c.journal-journal.ensures.entries in
    let still : NoneAccepted (drop l.shown l.desk.journal) = subst (λ (s : LockedState). NoneAccepted (drop s.shown s.journal)) (sym c.self.view_is) none in
    let later : NoneAccepted (drop l.added l.desk.journal) = none_later l.desk.journal l.shown l.added c.self.invariant.order.0 still in
    let gathered = c.gather-self-inside.ensures.idle (subst (λ (es : List Entry). NoneAccepted (drop l.added es)) (sym entries) later) in
    let same = idle_gathers published_grows g.K.Session.book g.K.Session.base g.K.Session.plan l.desk l.pair c.gather-self-inside.new.pair c.journal-journal.result.now l.added l.shown c.gather-self-inside.result
    entries c.self.invariant c.gather-self-inside.ensures.lists c.gather-self-inside.ensures.order.0 still in
    c.show-self-inside.ensures.idle same gathered ∙ ap (λ (es : List Entry). length es) entries ∙ ap (λ (s : LockedState). length s.journal) c.self.view_is

pub invariant_of-self : goal.invariant_of-self
invariant_of-self g c =
    let l = c.self.inside in
    let i = c.self.invariant in
    let order = c.gather-self-inside.ensures.order in
    locked_published g.K.Session.book g.K.Session.base g.K.Session.plan l.desk l.pair c.gather-self-inside.new.pair c.show-self-inside.new.pair c.journal-journal.result.now l.added l.shown c.gather-self-inside.result c.show-self-inside.result
    c.journal-journal.ensures.entries i c.gather-self-inside.ensures.lists c.show-self-inside.ensures.lists order.1
    (⊎_elim (λ t. omega (arith, t.0, t.1)) (λ e. omega (arith, e, i.order.0, order.0)) c.show-self-inside.ensures.shown)

pub returns-clause-told : goal.returns-clause-told
returns-clause-told g c =
    let l = c.self.inside in
    let i = c.self.invariant in
    let order = c.gather-self-inside.ensures.order in
    let entries = c.journal-journal.ensures.entries in
    let published_then = locked_published g.K.Session.book g.K.Session.base g.K.Session.plan l.desk l.pair c.gather-self-inside.new.pair c.show-self-inside.new.pair c.journal-journal.result.now l.added l.shown c.gather-self-inside.result c.show-self-inside.result
    entries i c.gather-self-inside.ensures.lists c.show-self-inside.ensures.lists order.1
    (⊎_elim (λ t. omega (arith, t.0, t.1)) (λ e. omega (arith, e, i.order.0, order.0)) c.show-self-inside.ensures.shown) in
    subst (λ (s : LockedState). c.told.result ≡ told (known g.K.Session.book (published (volume_of g.K.Session.base) s.journal c.show-self-inside.result)) c.show-self-inside.result (length s.journal)) c.self.view_is
    (c.told.ensures ∙ told_published g.K.Session.book g.K.Session.base g.K.Session.plan l.desk c.show-self-inside.new.pair c.journal-journal.result.now c.gather-self-inside.result c.show-self-inside.result entries published_then)

pub returns-clause-headline : goal.returns-clause-headline
returns-clause-headline g c =
    let l = c.self.inside in
    let i = c.self.invariant in
    let order = c.gather-self-inside.ensures.order in
    under_lock g.K.Session.book g.K.Session.base g.K.Session.plan l.desk c.show-self-inside.new.pair c.gather-self-inside.result c.show-self-inside.result
    (locked_published g.K.Session.book g.K.Session.base g.K.Session.plan l.desk l.pair c.gather-self-inside.new.pair c.show-self-inside.new.pair c.journal-journal.result.now l.added l.shown c.gather-self-inside.result c.show-self-inside.result
    c.journal-journal.ensures.entries i c.gather-self-inside.ensures.lists c.show-self-inside.ensures.lists order.1
    (⊎_elim (λ t. omega (arith, t.0, t.1)) (λ e. omega (arith, e, i.order.0, order.0)) c.show-self-inside.ensures.shown))
