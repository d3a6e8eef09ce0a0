use Rattle.std.proofs.Common.{◌≡◌, [], take, drop}
use Rattle.hfs_fields.specs.Records.{is_item}
use Rattle.hfs_fields.specs.First.{first_failing}
use Rattle.hfs_catalog.specs.Indexes.{AreRooted}
use Rattle.hfs_catalog.specs.Faults.{implies, is_parent_right}
use Rattle.hfs_catalog.proofs.parent_check.first_wrong_parent.Given as goal

abbrev pub invariant-loop-i : goal.invariant-loop-i
invariant-loop-i l =
    (first_failing (λ _ r. implies (is_item r.1) (is_parent_right l.catalog r)) [] l.records ≡ first_failing (λ _ r. implies (is_item r.1) (is_parent_right l.catalog r)) (take l.i l.records) (drop l.i l.records))
    × AreRooted l.rooted l.catalog
