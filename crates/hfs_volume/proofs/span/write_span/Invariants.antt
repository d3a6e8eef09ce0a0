-- What was written so far.
use Rattle.std.specs.Prelude.{◌≡◌, ◌-◌, ◌≤◌, length}
use Rattle.hfs_source.specs.Images.{OfEach}
use Rattle.hfs_volume.specs.InFile.{WritesAt}
use Rattle.hfs_volume.proofs.span.write_span.Given as goal

abbrev pub invariant-loop-done : goal.invariant-loop-done
invariant-loop-done g l = record {
  few : l.done ≤ l.count;
  room : length l.buffer ≡ length l.initial.buffer;
  written : WritesAt (g.S.PlacedBytes.Holds l.source) l.place l.done (g.W.Write.contents l.initial.writer) (g.W.Write.contents l.writer);
  narrows : OfEach (g.S.PlacedBytes.Holds l.source) (g.S.PlacedBytes.Holds l.initial.source);
}

abbrev pub decreases-loop-done : goal.decreases-loop-done
decreases-loop-done g l = l.count - l.done
