-- the entries so far, and those that are still to come
use Rattle.std.specs.Prelude.{◌≡◌, ◌+◌, ◌*◌}
use Rattle.hfs_source.specs.Images.{FailsWhere, OfEach}
use Rattle.hfs_encodings.specs.IncomingAppleDouble.{PartsLie, no_parts, with_entries}
use Rattle.hfs_encodings.proofs.incoming_apple_double.read_entries.Given as goal

abbrev pub invariant-loop-left : goal.invariant-loop-left
invariant-loop-left g l = record {
  scanned : OfEach (g.S.PlacedBytes.Holds l.source) (λ file. with_entries l.left l.place l.len l.parts file ≡ with_entries l.count 26 l.len no_parts file);
  at : l.place + 12 * l.left ≡ 26 + 12 * l.count;
  lie : PartsLie l.len l.parts;
  held : OfEach (g.S.PlacedBytes.Holds l.source) (g.S.PlacedBytes.Holds l.initial.source);
  later : FailsWhere (g.S.PlacedBytes.Fails l.source) (g.S.PlacedBytes.Fails l.initial.source);
}

abbrev pub decreases-loop-left : goal.decreases-loop-left
decreases-loop-left g l = l.left
