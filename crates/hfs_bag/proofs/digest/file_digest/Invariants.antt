-- the digest is of the first bytes
use Rattle.std.specs.Prelude.{◌≡◌, ◌-◌, ◌≤◌, take}
use Rattle.hfs_source.specs.Images.{FailsWhere, OfEach}
use Rattle.hfs_bag.proofs.digest.file_digest.Given as goal

abbrev pub invariant-loop-done : goal.invariant-loop-done
invariant-loop-done g l = record {
  first : OfEach (g.S.PlacedBytes.Holds l.source) (λ file. l.digest ≡ take l.done file);
  within : l.done ≤ l.len;
  held : OfEach (g.S.PlacedBytes.Holds l.source) (g.S.PlacedBytes.Holds l.initial.source);
  later : FailsWhere (g.S.PlacedBytes.Fails l.source) (g.S.PlacedBytes.Fails l.initial.source);
}

abbrev pub decreases-loop-done : goal.decreases-loop-done
decreases-loop-done g l = l.len - l.done
