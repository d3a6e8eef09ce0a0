-- The sum of the first bytes.
use Rattle.std.specs.Prelude.{◌≡◌, ◌-◌, ◌%◌, ◌<◌, ◌≤◌, length, take}
use Rattle.hfs_source.specs.Sums.{sum_from}
use Rattle.hfs_source.specs.Images.{OfEach}
use Rattle.hfs_volume.specs.InFile.{OfPatchedRange}
use Rattle.hfs_volume.proofs.range.range_sum.Given as goal

abbrev pub invariant-loop-done : goal.invariant-loop-done
invariant-loop-done g l = record {
  few : l.done ≤ l.range.len;
  even : l.done < l.range.len → l.done % 512 ≡ 0;
  room : length l.buffer ≡ length l.initial.buffer;
  sum : OfPatchedRange (g.S.PlacedBytes.Holds l.source) l.range l.changed (λ bytes. l.sum ≡ sum_from 0 (take l.done bytes));
  narrows : OfEach (g.S.PlacedBytes.Holds l.source) (g.S.PlacedBytes.Holds l.initial.source);
}

abbrev pub decreases-loop-done : goal.decreases-loop-done
decreases-loop-done g l = l.range.len - l.done
