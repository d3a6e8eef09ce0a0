use Rattle.std.proofs.Common.{◌≡◌, [], take, drop}
use Rattle.hfs_fields.specs.First.{first_failing}
use Rattle.hfs_fields.specs.Records.{is_thread}
use Rattle.hfs_catalog.specs.Faults.{implies, is_thread_right}
use Rattle.hfs_catalog.proofs.thread_check.first_wrong_thread.Given as goal

abbrev pub invariant-loop-i : goal.invariant-loop-i
invariant-loop-i l = first_failing (λ _ r. implies (is_thread r.1) (is_thread_right l.catalog r)) [] l.records ≡ first_failing (λ _ r. implies (is_thread r.1) (is_thread_right l.catalog r)) (take l.i l.records) (drop l.i l.records)
