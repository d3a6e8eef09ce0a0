-- What was read so far.
use Rattle.std.proofs.Common.{◌≡◌, ◌-◌, ◌≤◌, length, take, drop}
use Rattle.hfs_source.specs.Images.{FailsWhere, OfEach}
use Rattle.hfs_put.specs.Failures.{FailsLaid}
use Rattle.hfs_put.specs.Images.{laid_images}
use Rattle.hfs_put.proofs.reading.LaidForksPlacedBytes.read_at.Given as goal

abbrev pub invariant-loop-done : goal.invariant-loop-done
invariant-loop-done g l = record {
  long : length l.into ≡ length l.initial.into;
  few : l.done ≤ length l.into;
  laid : OfEach (laid_images g.B.PlacedBytes.Holds g.H.PlacedFiles.Holds l.self) (λ image. take l.done l.into ≡ take l.done (drop l.place image));
  later : FailsWhere (FailsLaid (g.B.PlacedBytes.Fails l.self.bytes) l.self.start l.self.runs.items)
      (FailsLaid (g.B.PlacedBytes.Fails l.initial.self.bytes) l.initial.self.start l.initial.self.runs.items);
  own : FailsWhere (g.B.PlacedBytes.Fails l.self.bytes) (g.B.PlacedBytes.Fails l.initial.self.bytes);
  held : OfEach (laid_images g.B.PlacedBytes.Holds g.H.PlacedFiles.Holds l.self) (laid_images g.B.PlacedBytes.Holds g.H.PlacedFiles.Holds l.initial.self);
}

abbrev pub decreases-loop-done : goal.decreases-loop-done
decreases-loop-done g l = length l.initial.into - l.done
