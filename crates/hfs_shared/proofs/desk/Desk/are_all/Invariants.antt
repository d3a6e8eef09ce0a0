use Rattle.std.proofs.Common.{◌+◌, ◌<◌, ℕ}
use Rattle.hfs_shared.specs.Journals.{made_by}
use Rattle.hfs_shared.specs.Desks.{pass_state}
use Rattle.hfs_shared.specs.Closings.{HasPass}
use Rattle.hfs_shared.proofs.desk.Desk.are_all.Given as goal

abbrev pub invariant-loop-at : goal.invariant-loop-at
invariant-loop-at l = (w : ℕ) → w < l.at → HasPass l.passes.items (pass_state (w + 1) (made_by (w + 1) l.self-inside.journal.items + 1))
