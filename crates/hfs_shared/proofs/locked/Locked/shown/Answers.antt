use Rattle.std.proofs.Common.{subst}
use Rattle.hfs_shared.specs.Lockeds.{LockedState, IsUnderLock}
use Rattle.hfs_shared.proofs.Showing.{under_lock}
use Rattle.hfs_shared.proofs.locked.Locked.shown.Goals as goal

pub returns-clause-headline : goal.returns-clause-headline
returns-clause-headline g c =
    let l = c.self.inside in
    subst (λ (s : LockedState). IsUnderLock g.K.Session.base g.K.Session.plan s) c.self.view_is (under_lock g.K.Session.book g.K.Session.base g.K.Session.plan l.desk l.pair l.added l.shown c.self.invariant)
