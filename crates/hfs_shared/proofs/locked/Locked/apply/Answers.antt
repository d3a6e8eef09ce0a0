use Rattle.std.proofs.Common.{subst}
use Rattle.std.specs.Prelude.{IfOk}
use Rattle.hfs_model.specs.declared.reply.Reply.{Reply}
use Rattle.hfs_shared.specs.Desks.{IsApplied}
use Rattle.hfs_shared.specs.Lockeds.{LockedState, desk_of}
use Rattle.hfs_shared.proofs.Showing.{locked_after, under_lock}
use Rattle.hfs_shared.proofs.PublishedLawsProved.{published_stays}
use Rattle.hfs_shared.proofs.locked.Locked.apply.Goals as goal

pub returns-clause-ok : goal.returns-clause-ok
returns-clause-ok g c =
    subst (λ (s : LockedState). IfOk c.apply.result (λ (r : Reply). IsApplied (desk_of s) c.args.pass.now c.args.call.now r c.apply.new.self c.apply.new.pass)) c.self.view_is c.apply.ensures.ok

pub invariant_of-self : goal.invariant_of-self
invariant_of-self g c =
    let l = c.self.inside in
    locked_after published_stays g.K.Session.book g.K.Session.base g.K.Session.plan l.desk c.apply.new.self l.pair l.added l.shown c.args.pass.now c.apply.new.pass c.args.call.now c.apply.result
    c.requires c.apply.ensures.ok c.apply.ensures.err c.self.invariant

pub returns-clause-headline : goal.returns-clause-headline
returns-clause-headline g c =
    let l = c.self.inside in
    under_lock g.K.Session.book g.K.Session.base g.K.Session.plan c.apply.new.self l.pair l.added l.shown
    (locked_after published_stays g.K.Session.book g.K.Session.base g.K.Session.plan l.desk c.apply.new.self l.pair l.added l.shown c.args.pass.now c.apply.new.pass c.args.call.now c.apply.result
    c.requires c.apply.ensures.ok c.apply.ensures.err c.self.invariant)
