use Rattle.std.proofs.Common.{◌≡◌, None, length}
use Rattle.hfs_shared.specs.Works.{IsWork}
use Rattle.hfs_shared.proofs.workers.work.Given as goal

abbrev pub invariant-loop-call : goal.invariant-loop-call
invariant-loop-call g l =
    IsWork g.K.Session.book g.K.Session.base g.K.Session.plan l.initial.done.pass l.calls.items l.done.pass l.replies.items
    × (length l.replies.items ≡ l.call-index)
    × (l.fault ≡ None)
