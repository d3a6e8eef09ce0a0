use Rattle.std.proofs.Common.{◌≡◌, ℕ, take}
use Rattle.hfs_catalog.specs.Records.{valence_of}
use Rattle.hfs_catalog.specs.Indexes.{count_with}
use Rattle.hfs_catalog.proofs.valence_check.child_counts.Given as goal

abbrev pub invariant-loop-i : goal.invariant-loop-i
invariant-loop-i l = (id : ℕ) → count_with l.counts l.siblings.parent l.siblings.count id ≡ valence_of (take l.i l.catalog) id
