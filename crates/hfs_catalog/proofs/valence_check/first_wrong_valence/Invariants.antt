use Rattle.std.proofs.Common.{◌≡◌, [], take, drop}
use Rattle.hfs_fields.specs.First.{first_failing}
use Rattle.hfs_catalog.specs.Faults.{is_valence_right}
use Rattle.hfs_catalog.proofs.valence_check.first_wrong_valence.Given as goal

abbrev pub invariant-loop-i : goal.invariant-loop-i
invariant-loop-i l = first_failing (λ _ r. is_valence_right l.catalog r) [] l.catalog ≡ first_failing (λ _ r. is_valence_right l.catalog r) (take l.i l.catalog) (drop l.i l.catalog)
