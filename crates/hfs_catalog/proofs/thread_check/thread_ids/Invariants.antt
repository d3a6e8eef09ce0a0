use Rattle.std.proofs.Common.{◌≡◌, ℕ, take}
use Rattle.hfs_catalog.specs.Records.{has_thread}
use Rattle.hfs_catalog.specs.Indexes.{has_number}
use Rattle.hfs_catalog.proofs.thread_check.thread_ids.Given as goal

abbrev pub invariant-loop-i : goal.invariant-loop-i
invariant-loop-i l = (id : ℕ) → has_number l.ids id ≡ has_thread (take l.i l.catalog) id
