-- The blocks of the first runs were read.
use Rattle.std.specs.Prelude.{◌≡◌, ℕ, ◌<◌, slice_index_or}
use Rattle.hfs_blocks.specs.declared.run.Run.{Run}
use Rattle.hfs_blocks.specs.Blocks.{run_of}
use Rattle.hfs_blocks.specs.Layers.{KeepsWithin}
use Rattle.hfs_source.specs.Seen.{SeesMore}
use Rattle.hfs_source.specs.Sparse.{HasEach, HasGrown, StaysOf}
use Rattle.hfs_runs.proofs.forks.fetch_forks.Given as goal

abbrev pub invariant-loop-run : goal.invariant-loop-run
invariant-loop-run g l = record {
  has : (k : ℕ) (none : Run) → k < l.run-index → HasEach l.read (run_of (slice_index_or l.runs k none));
  grown : HasGrown l.initial.read l.read;
  stays : StaysOf (g.S.BlockSource.image l.initial.source) l.initial.read l.read;
  within : KeepsWithin l.initial.read l.read l.count;
  image : g.S.BlockSource.image l.source ≡ g.S.BlockSource.image l.initial.source;
  sees : SeesMore (g.S.BlockSource.Holds l.initial.source) (g.S.BlockSource.Holds l.source) l.initial.read l.read;
}
