-- what was written and what is left to read make the fork, of each image that has the bytes which were read
use Rattle.std.proofs.Common.{◌≡◌, false}
use Rattle.hfs_source.specs.Images.{OfEach}
use Rattle.hfs_rescue_items.proofs.WritingLemmas.{GoesOnOf}
use Rattle.hfs_rescue_items.proofs.fork_writing.write_fork.Given as goal

abbrev pub invariant-loop-piece : goal.invariant-loop-piece
invariant-loop-piece g l = record {
  narrows : OfEach (g.S.BlockSource.Holds l.source) (g.S.BlockSource.Holds l.fn.source);
  on : GoesOnOf l.mdb l.fork.length l.fork.places.items (g.S.BlockSource.Holds l.source) (g.W.Write.contents l.fn.writer) (g.W.Write.contents l.writer) l.reading;
  still : l.is_begun ≡ false → l.writer ≡ l.fn.writer;
}

abbrev pub decreases-loop-piece : goal.decreases-loop-piece
decreases-loop-piece g l = l.reading.left
