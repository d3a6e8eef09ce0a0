use Rattle.std.proofs.Common.{◌≡◌, Bool, true, false, refl, ap, ◌∙◌}
use Rattle.hfs_shared.proofs.Growing.{unread_more, unread_added}
use Rattle.hfs_shared.proofs.unread.Unread.add.Goals as goal

pub invariant_of-self : goal.invariant_of-self
invariant_of-self c =
    let u = c.self.inside in
    unread_more u.front c.add.new.self u.history.head.book u.shown c.args.call.now c.add.result c.self.invariant c.add.ensures

pub returns : goal.returns
returns c =
    let u = c.self.inside in
    rw (← c.self.view_is) (unread_added u.front c.add.new.self u.shown c.args.call.now c.add.result c.add.ensures)
