-- The forks that the first lines name.
use Rattle.std.specs.Prelude.{take}
use Rattle.hfs_source.specs.Sparse.{sparse}
use Rattle.hfs_copy.specs.Keeping.{LieIn}
use Rattle.hfs_runs.specs.NamedForks.{HaveMet, HaveNamedForks, blocks_of_runs}
use Rattle.hfs_runs.proofs.forks.named_forks.Given as goal

abbrev pub invariant-loop-line : goal.invariant-loop-line
invariant-loop-line l = record {
  within : LieIn l.working.count l.runs.items;
  named : HaveNamedForks (sparse l.working.read) (take l.line-index l.lines) (blocks_of_runs l.runs.items);
  met : HaveMet (sparse l.working.read) l.ids.entries l.runs.items;
}
