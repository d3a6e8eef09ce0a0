-- The text so far, and the lines that are still to come.
use Rattle.std.specs.Prelude.{string_bytes}
use Rattle.hfs_source.specs.Images.{FailsWhere, OfEach}
use Rattle.hfs_commands.proofs.VolumeLines.{LinesLeft}
use Rattle.hfs_commands.proofs.volumes.push_lines.Given as goal

abbrev pub invariant-loop-i : goal.invariant-loop-i
invariant-loop-i g l = record {
  lines : OfEach (g.S.PlacedBytes.Holds l.source) (λ file. LinesLeft l.others l.ranges file (string_bytes l.initial.text) (string_bytes l.text) l.i);
  held : OfEach (g.S.PlacedBytes.Holds l.source) (g.S.PlacedBytes.Holds l.initial.source);
  later : FailsWhere (g.S.PlacedBytes.Fails l.source) (g.S.PlacedBytes.Fails l.initial.source);
}
