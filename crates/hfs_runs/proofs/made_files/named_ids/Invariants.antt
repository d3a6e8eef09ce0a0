-- The items that the first lines name.
use Rattle.std.specs.Prelude.{take}
use Rattle.hfs_check.specs.Parts.{catalog_in}
use Rattle.hfs_source.specs.Sparse.{sparse}
use Rattle.hfs_runs.specs.NamedForks.{AreIdsOf}
use Rattle.hfs_runs.proofs.made_files.named_ids.Given as goal

abbrev pub invariant-loop-line : goal.invariant-loop-line
invariant-loop-line l = AreIdsOf (catalog_in (sparse l.read)) l.ids.entries (take l.line-index l.lines)
