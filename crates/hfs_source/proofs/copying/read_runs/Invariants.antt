-- What was appended, and the runs that are still to come.
use Rattle.std.specs.Prelude.{◌≡◌, drop}
use Rattle.std.specs.List.{flat_map}
use Rattle.hfs_blocks.specs.Blocks.{block_at, run_of}
use Rattle.hfs_source.specs.Images.{OfEach}
use Rattle.hfs_source.specs.Seen.{EachKnown}
use Rattle.hfs_source.proofs.Copied.{Completes}
use Rattle.hfs_source.proofs.copying.read_runs.Given as goal

abbrev pub invariant-loop-run : goal.invariant-loop-run
invariant-loop-run g l = record {
  bytes : Completes (g.S.BlockSource.image l.initial.source) l.bytes.items (flat_map run_of (drop l.run-index l.runs))
      (λ image. flat_map (block_at image) (flat_map run_of l.runs));
  each : EachKnown (g.S.BlockSource.Holds l.source) (λ known. Completes known l.bytes.items (flat_map run_of (drop l.run-index l.runs))
      (λ image. flat_map (block_at image) (flat_map run_of l.runs)));
  narrows : OfEach (g.S.BlockSource.Holds l.source) (g.S.BlockSource.Holds l.initial.source);
  image : g.S.BlockSource.image l.source ≡ g.S.BlockSource.image l.initial.source;
}
