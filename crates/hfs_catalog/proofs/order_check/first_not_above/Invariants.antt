use Rattle.std.proofs.Common.{◌≡◌, [], take, drop}
use Rattle.hfs_fields.specs.Keys.{cat_cmp}
use Rattle.hfs_fields.specs.First.{first_failing}
use Rattle.hfs_btree.specs.Pairs.{Rises}
use Rattle.hfs_catalog.specs.Faults.{is_above}
use Rattle.hfs_catalog.proofs.order_check.first_not_above.Given as goal

abbrev pub invariant-loop-i : goal.invariant-loop-i
invariant-loop-i l = (first_failing is_above [] l.catalog ≡ first_failing is_above (take l.i l.catalog) (drop l.i l.catalog)) × Rises cat_cmp (take l.i l.catalog)
