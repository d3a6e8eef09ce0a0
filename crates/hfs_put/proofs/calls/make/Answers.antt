-- A call that is refused.
use Rattle.std.proofs.Common.{rules, ◌≡◌, false}
use Rattle.std.specs.Prelude.{◌≢◌, pos}
use Rattle.hfs_model.specs.Replies.{is_accepted}
use Rattle.hfs_put.proofs.CallOutcomes.{done-is, refused-as}
use Rattle.hfs_put.proofs.calls.make.Goals as goal

pub returns-then-reply-ne0-clause-err : goal.returns-then-reply-ne0-clause-err
returns-then-reply-ne0-clause-err c =
    let reply = c.in_ok-reply.reply in
    let refused : is_accepted reply ≡ false = search rules in
    let apart : reply.code ≢ pos 0 = search rules in
    refused-as c.args.volume.now c.call.new.self reply c.args.call.now refused (c.in_ok-reply.ensures.refused apart) c.in_ok-reply.ensures.outcome

pub returns-clause-ok : goal.returns-clause-ok
returns-clause-ok c =
    let none : c.in_ok-reply.reply.code ≡ pos 0 = search rules in
    done-is c.args.volume.now.current _ c.in_ok-reply.reply c.args.call.now c.in_ok-reply.ensures.outcome none
