use Rattle.std.proofs.Common.{◌≤◌, ◌-◌}
use Rattle.std.specs.Io.KnownBytes.{Appends}
use Rattle.hfs_format.proofs.Ranges.{made}
use Rattle.hfs_format.proofs.planned_image.PlannedImage.write.Given as goal

-- the blocks that were written
abbrev pub invariant-loop-first : goal.invariant-loop-first
invariant-loop-first g l = record {
  within : l.first ≤ l.blocks;
  written : Appends (g.W.Write.contents l.initial.writer) (g.W.Write.contents l.writer) (made l.self.volume 0 l.first);
}

abbrev pub decreases-loop-first : goal.decreases-loop-first
decreases-loop-first g l = l.blocks - l.first
