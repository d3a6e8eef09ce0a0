-- What was written so far.
use Rattle.std.specs.Prelude.{◌≡◌, ◌-◌, ◌%◌, ◌<◌, ◌≤◌, length}
use Rattle.hfs_source.specs.Images.{IsRangeOf, OfEach}
use Rattle.hfs_volume.proofs.WrittenLemmas.{HasWritten}
use Rattle.hfs_volume.proofs.range.write_range.Given as goal

abbrev pub invariant-loop-done : goal.invariant-loop-done
invariant-loop-done g l = record {
  few : l.done ≤ l.range.len;
  even : l.done < l.range.len → l.done % 512 ≡ 0;
  room : length l.buffer ≡ length l.initial.buffer;
  written : HasWritten (IsRangeOf (g.S.PlacedBytes.Holds l.source) l.range.start l.range.len) l.range.len l.changed l.done
      (g.W.Write.contents l.initial.writer) (g.W.Write.contents l.writer);
  narrows : OfEach (g.S.PlacedBytes.Holds l.source) (g.S.PlacedBytes.Holds l.initial.source);
}

abbrev pub decreases-loop-done : goal.decreases-loop-done
decreases-loop-done g l = l.range.len - l.done
