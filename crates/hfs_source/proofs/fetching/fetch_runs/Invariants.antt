-- The blocks of the first runs were read.
use Rattle.std.specs.Prelude.{◌≡◌, ℕ, ◌<◌, slice_index_or}
use Rattle.hfs_blocks.specs.declared.run.Run.{Run}
use Rattle.hfs_blocks.specs.Blocks.{run_of, AreRunsWithin}
use Rattle.hfs_blocks.specs.Layers.{changes, AreWithin}
use Rattle.hfs_source.specs.Sparse.{HasEach, HasGrown, StaysOf}
use Rattle.hfs_source.specs.Seen.{SeesMore}
use Rattle.hfs_source.proofs.fetching.fetch_runs.Given as goal

abbrev pub invariant-loop-run : goal.invariant-loop-run
invariant-loop-run g l = record {
  has : (k : ℕ) (none : Run) → k < l.run-index → HasEach l.read (run_of (slice_index_or l.runs k none));
  grown : HasGrown l.initial.read l.read;
  stays : StaysOf (g.S.BlockSource.image l.initial.source) l.initial.read l.read;
  within : (total : ℕ) → AreRunsWithin l.runs total → AreWithin (changes l.initial.read) total → AreWithin (changes l.read) total;
  image : g.S.BlockSource.image l.source ≡ g.S.BlockSource.image l.initial.source;
  sees : SeesMore (g.S.BlockSource.Holds l.initial.source) (g.S.BlockSource.Holds l.source) l.initial.read l.read;
}
