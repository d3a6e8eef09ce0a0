use Rattle.std.proofs.Common.{◌≡◌, take}
use Rattle.hfs_model.specs.Runs.{run}
use Rattle.hfs_store.proofs.plain_volume.PlainVolume.run.Given as goal

abbrev pub invariant-loop-call : goal.invariant-loop-call
invariant-loop-call l = (l.self, l.replies.items) ≡ run l.initial.self (take l.call-index l.calls)
