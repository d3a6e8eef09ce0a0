use Rattle.std.proofs.Common.{◌≡◌, [], take, drop}
use Rattle.hfs_fields.specs.First.{first_failing}
use Rattle.hfs_catalog.specs.Faults.{is_record_right}
use Rattle.hfs_catalog.proofs.checks.record_fault.Given as goal

abbrev pub invariant-loop-i : goal.invariant-loop-i
invariant-loop-i l = first_failing (λ _ r. is_record_right r) [] l.catalog ≡ first_failing (λ _ r. is_record_right r) (take l.i l.catalog) (drop l.i l.catalog)
