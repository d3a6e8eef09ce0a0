use Rattle.std.proofs.Common.{◌≡◌, ℕ, take}
use Rattle.hfs_catalog.specs.Records.{has_thread}
use Rattle.hfs_viewers.specs.Opened.{has_number}
use Rattle.hfs_viewers.proofs.threads.ThreadIds.of.Given as goal

abbrev pub invariant-loop-i : goal.invariant-loop-i
invariant-loop-i l = (id : ℕ) → has_number l.threads id ≡ has_thread (take l.i l.records) id
