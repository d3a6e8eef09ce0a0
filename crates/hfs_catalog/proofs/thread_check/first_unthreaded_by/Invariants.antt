use Rattle.std.proofs.Common.{◌≡◌, [], take, drop}
use Rattle.hfs_fields.specs.First.{first_failing}
use Rattle.hfs_fields.specs.Records.{is_dir, item_id}
use Rattle.hfs_catalog.specs.Records.{has_thread}
use Rattle.hfs_catalog.specs.Faults.{implies}
use Rattle.hfs_catalog.proofs.thread_check.first_unthreaded_by.Given as goal

abbrev pub invariant-loop-i : goal.invariant-loop-i
invariant-loop-i l = first_failing (λ _ r. implies (is_dir r.1) (has_thread l.catalog (item_id r.1))) [] l.catalog ≡ first_failing (λ _ r. implies (is_dir r.1) (has_thread l.catalog (item_id r.1))) (take l.i l.catalog) (drop l.i l.catalog)
