-- those so far, and those among the sectors that are still to come
use Rattle.std.specs.Prelude.{◌≡◌, ◌+◌, ◌-◌, ◌*◌, ◌≤◌, drop}
use Rattle.hfs_source.specs.Images.{FailsWhere, OfEach}
use Rattle.hfs_source.specs.Sectors.{others_of}
use Rattle.hfs_source.proofs.counting.count_others.Given as goal

abbrev pub invariant-loop-n : goal.invariant-loop-n
invariant-loop-n g l = record {
  count : OfEach (g.S.PlacedBytes.Holds l.bytes) (λ file. l.others + others_of (l.sectors - l.n) (drop (l.n * 2352) file) ≡ others_of l.sectors file);
  few : l.others ≤ l.n;
  held : OfEach (g.S.PlacedBytes.Holds l.bytes) (g.S.PlacedBytes.Holds l.initial.bytes);
  later : FailsWhere (g.S.PlacedBytes.Fails l.bytes) (g.S.PlacedBytes.Fails l.initial.bytes);
}
