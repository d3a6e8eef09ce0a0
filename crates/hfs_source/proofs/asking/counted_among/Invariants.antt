-- Those so far, and those that are still to come.
use Rattle.hfs_source.specs.Images.{FailsWhere, OfEach}
use Rattle.hfs_source.proofs.CandidateCounts.{CountedLeft}
use Rattle.hfs_source.proofs.asking.counted_among.Given as goal

abbrev pub invariant-loop-i : goal.invariant-loop-i
invariant-loop-i g l = record {
  left : OfEach (g.S.PlacedBytes.Holds l.source) (λ file. CountedLeft l.counted l.ranges file l.inside.items l.i);
  held : OfEach (g.S.PlacedBytes.Holds l.source) (g.S.PlacedBytes.Holds l.initial.source);
  later : FailsWhere (g.S.PlacedBytes.Fails l.source) (g.S.PlacedBytes.Fails l.initial.source);
}
