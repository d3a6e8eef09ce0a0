use Rattle.hfs_shared.specs.Lockeds.{desk_of}
use Rattle.hfs_shared.proofs.Calling.{is_call}
use Rattle.hfs_shared.proofs.shared.Shared.call.Goals as goal

pub returns-clause-ok : goal.returns-clause-ok
returns-clause-ok g c =
    is_call g.K.Session.book g.K.Session.base g.K.Session.plan (desk_of c.lock-guard.result) (desk_of c.apply.new.self) c.args.pass.now c.apply.new.pass c.args.call c.in_ok-reply.reply c.publish-told.result
    c.in_ok-reply.ensures.headline.base_is c.in_ok-reply.ensures.ok c.in_ok-reply.ensures.headline.planned c.publish-told.ensures.told
