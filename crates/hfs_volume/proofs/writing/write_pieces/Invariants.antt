-- What was written so far.
use Rattle.std.specs.Prelude.{◌≡◌, ◌-◌, ◌%◌, ◌<◌, ◌≤◌, length}
use Rattle.hfs_source.specs.Images.{OfEach}
use Rattle.hfs_volume.proofs.WrittenLemmas.{HasWritten}
use Rattle.hfs_volume.proofs.writing.write_pieces.Given as goal

abbrev pub invariant-loop-done : goal.invariant-loop-done
invariant-loop-done g l = record {
  few : l.done ≤ l.len;
  even : l.done < l.len → l.done % 512 ≡ 0;
  room : length l.buffer ≡ length l.initial.buffer;
  written : HasWritten (g.S.BlockSource.Holds l.source) l.len l.changed l.done (g.W.Write.contents l.initial.writer) (g.W.Write.contents l.writer);
  narrows : OfEach (g.S.BlockSource.Holds l.source) (g.S.BlockSource.Holds l.initial.source);
  image : g.S.BlockSource.image l.source ≡ g.S.BlockSource.image l.initial.source;
}

abbrev pub decreases-loop-done : goal.decreases-loop-done
decreases-loop-done g l = l.len - l.done
