-- What is still to come of a run's blocks makes the whole, behind what was written.
use Rattle.std.specs.Prelude.{◌≡◌, ◌+◌, ◌-◌, ◌*◌, ◌≤◌, length, take}
use Rattle.std.specs.List.{range_with_len}
use Rattle.hfs_blocks.specs.Blocks.{run_of}
use Rattle.hfs_source.specs.Writing.{blocks_of}
use Rattle.hfs_source.specs.Images.{OfEach}
use Rattle.hfs_source.specs.Seen.{EachKnown}
use Rattle.hfs_source.proofs.Written.{GoesOnWith, AreWholeSoFar}
use Rattle.hfs_source.proofs.writing.copy_run.Given as goal

abbrev pub invariant-loop-behind : goal.invariant-loop-behind
invariant-loop-behind g l = record {
  few : l.behind ≤ l.run.count;
  rest : l.rest ≡ l.left - 512 * (l.run.count - l.behind);
  whole : AreWholeSoFar (g.S.BlockSource.image l.initial.source) l.run.first (l.run.count - l.behind);
  on : GoesOnWith (g.S.BlockSource.image l.initial.source) (g.W.Write.contents l.initial.writer) (g.W.Write.contents l.writer)
      (range_with_len (l.run.first + (l.run.count - l.behind)) l.behind) l.rest (λ image. take l.left (blocks_of image (run_of l.run)));
  whole_each : EachKnown (g.S.BlockSource.Holds l.source) (λ known. AreWholeSoFar known l.run.first (l.run.count - l.behind));
  on_each : EachKnown (g.S.BlockSource.Holds l.source) (λ known. GoesOnWith known (g.W.Write.contents l.initial.writer) (g.W.Write.contents l.writer)
      (range_with_len (l.run.first + (l.run.count - l.behind)) l.behind) l.rest (λ image. take l.left (blocks_of image (run_of l.run))));
  narrows : OfEach (g.S.BlockSource.Holds l.source) (g.S.BlockSource.Holds l.initial.source);
  none : l.rest ≡ l.all → l.writer ≡ l.initial.writer;
  room : length l.buffer ≡ length l.initial.buffer;
  image : g.S.BlockSource.image l.source ≡ g.S.BlockSource.image l.initial.source;
}

abbrev pub decreases-loop-behind : goal.decreases-loop-behind
decreases-loop-behind g l = l.behind
