-- The bits in the blocks so far are clear, and everything else is as it was.
use Rattle.hfs_blocks.specs.Layers.{changes, over, AreWithin}
use Rattle.hfs_space.proofs.Releases.{IsReleasing}
use Rattle.hfs_space.proofs.bitmap.Bitmap.release.Given as goal

abbrev pub invariant-loop-i : goal.invariant-loop-i
invariant-loop-i g l = record {
  releasing : IsReleasing (over (changes l.initial.patch) (g.B.Blocks.blocks l.self.blocks.now)) (over (changes l.patch) (g.B.Blocks.blocks l.self.blocks.now)) l.self.start l.first l.end l.i;
  within : AreWithin (changes l.initial.patch) (g.B.Blocks.total l.self.blocks.now) → AreWithin (changes l.patch) (g.B.Blocks.total l.self.blocks.now);
}
