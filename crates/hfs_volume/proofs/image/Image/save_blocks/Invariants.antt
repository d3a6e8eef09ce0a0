-- the blocks before n went out
use Rattle.std.proofs.Common.{◌*◌, take}
use Rattle.std.specs.Io.KnownBytes.{Appends}
use Rattle.hfs_volume.proofs.image.Image.save_blocks.Given as goal

abbrev pub invariant-loop-n : goal.invariant-loop-n
invariant-loop-n g l = Appends (g.W.Write.contents l.initial.writer) (g.W.Write.contents l.writer) (take (512 * l.n) l.self.current)
