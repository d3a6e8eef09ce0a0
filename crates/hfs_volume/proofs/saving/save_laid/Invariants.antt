-- the blocks before n went out
use Rattle.std.proofs.Common.{◌*◌, ◌-◌, ◌≤◌, take}
use Rattle.std.specs.Io.KnownBytes.{Appends}
use Rattle.hfs_blocks.specs.Layers.{changes}
use Rattle.hfs_volume.specs.Laid.{laid_over}
use Rattle.hfs_volume.proofs.saving.save_laid.Given as goal

abbrev pub invariant-loop-n : goal.invariant-loop-n
invariant-loop-n g l = (l.n ≤ l.count) × Appends (g.W.Write.contents l.initial.writer) (g.W.Write.contents l.writer) (take (512 * l.n) (laid_over (changes l.changed) l.base))

abbrev pub decreases-loop-n : goal.decreases-loop-n
decreases-loop-n g l = l.count - l.n
