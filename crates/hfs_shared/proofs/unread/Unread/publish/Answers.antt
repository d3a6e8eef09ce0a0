use Rattle.hfs_shared.proofs.Growing.{unread_shown}
use Rattle.hfs_shared.proofs.unread.Unread.publish.Goals as goal

pub invariant_of-self : goal.invariant_of-self
invariant_of-self c =
    let u = c.self.inside in
    unread_shown u.front u.history.head.book u.shown c.again.result c.self.invariant c.again.ensures
