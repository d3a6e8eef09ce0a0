use Rattle.std.proofs.Common.{◌≡◌, length}
use Rattle.hfs_runs.specs.Views.{AreReads}
use Rattle.hfs_runs.proofs.viewing.view.Given as goal

-- the calls so far are answered
abbrev pub invariant-loop-call : goal.invariant-loop-call
invariant-loop-call l = AreReads l.calls.items l.initial.viewer l.replies.items l.viewer × (length l.replies.items ≡ l.call-index)
