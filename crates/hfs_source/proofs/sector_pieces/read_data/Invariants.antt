-- what was laid so far
use Rattle.std.specs.Prelude.{◌≡◌, ℕ, List, ◌-◌, ◌≤◌, drop, take, length}
use Rattle.hfs_source.specs.Images.{FailsWhere, OfEach}
use Rattle.hfs_source.specs.Sectors.{user_data_of}
use Rattle.hfs_source.proofs.sector_pieces.read_data.Given as goal

abbrev pub invariant-loop-done : goal.invariant-loop-done
invariant-loop-done g l = record {
  long : length l.into ≡ length l.initial.into;
  few : l.done ≤ length l.into;
  laid : (file : List ℕ) → g.S.PlacedBytes.Holds l.bytes file → take l.done l.into ≡ take l.done (drop l.place (user_data_of file));
  held : OfEach (g.S.PlacedBytes.Holds l.bytes) (g.S.PlacedBytes.Holds l.initial.bytes);
  later : FailsWhere (g.S.PlacedBytes.Fails l.bytes) (g.S.PlacedBytes.Fails l.initial.bytes);
}

abbrev pub decreases-loop-done : goal.decreases-loop-done
decreases-loop-done g l = length l.into - l.done
