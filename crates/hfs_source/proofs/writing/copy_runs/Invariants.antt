-- What is still to come of the runs' blocks makes the whole, behind what was written.
use Rattle.std.specs.Prelude.{◌≡◌, ◌≤◌, length, take, drop}
use Rattle.std.specs.List.{flat_map}
use Rattle.hfs_blocks.specs.Blocks.{run_of}
use Rattle.hfs_source.specs.Writing.{blocks_of}
use Rattle.hfs_source.specs.Images.{OfEach}
use Rattle.hfs_source.specs.Seen.{EachKnown}
use Rattle.hfs_source.proofs.Written.{GoesOnWith}
use Rattle.hfs_source.proofs.writing.copy_runs.Given as goal

abbrev pub invariant-loop-run : goal.invariant-loop-run
invariant-loop-run g l = record {
  few : l.left ≤ l.size;
  on : GoesOnWith (g.S.BlockSource.image l.initial.source) (g.W.Write.contents l.initial.writer) (g.W.Write.contents l.writer)
      (flat_map run_of (drop l.run-index l.runs)) l.left (λ image. take l.size (blocks_of image (flat_map run_of l.runs)));
  on_each : EachKnown (g.S.BlockSource.Holds l.source) (λ known. GoesOnWith known (g.W.Write.contents l.initial.writer) (g.W.Write.contents l.writer)
      (flat_map run_of (drop l.run-index l.runs)) l.left (λ image. take l.size (blocks_of image (flat_map run_of l.runs))));
  narrows : OfEach (g.S.BlockSource.Holds l.source) (g.S.BlockSource.Holds l.initial.source);
  none : l.left ≡ l.size → l.writer ≡ l.initial.writer;
  room : 65536 ≤ length l.buffer.items;
  image : g.S.BlockSource.image l.source ≡ g.S.BlockSource.image l.initial.source;
}
