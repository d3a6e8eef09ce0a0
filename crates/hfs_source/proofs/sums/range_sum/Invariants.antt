-- the sum so far, and the bytes that are still to come
use Rattle.std.specs.Prelude.{◌-◌, ◌≤◌}
use Rattle.hfs_source.specs.Images.{FailsWhere, OfEach}
use Rattle.hfs_source.proofs.SumLemmas.{GoesOn}
use Rattle.hfs_source.proofs.sums.range_sum.Given as goal

abbrev pub invariant-loop-done : goal.invariant-loop-done
invariant-loop-done g l = record {
  sum : OfEach (g.S.PlacedBytes.Holds l.source) (λ file. GoesOn l.range file l.sum l.done);
  within : l.done ≤ l.range.len;
  held : OfEach (g.S.PlacedBytes.Holds l.source) (g.S.PlacedBytes.Holds l.initial.source);
  later : FailsWhere (g.S.PlacedBytes.Fails l.source) (g.S.PlacedBytes.Fails l.initial.source);
}

abbrev pub decreases-loop-done : goal.decreases-loop-done
decreases-loop-done g l = l.range.len - l.done
