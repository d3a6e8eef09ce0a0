-- The bits in the blocks so far are set, and everything else is as it was.
use Rattle.hfs_blocks.specs.Layers.{changes, over, AreWithin}
use Rattle.hfs_space.proofs.Claims.{IsClaiming}
use Rattle.hfs_space.proofs.claiming.claim.Given as goal

abbrev pub invariant-loop-i : goal.invariant-loop-i
invariant-loop-i g l = record {
  claiming : IsClaiming (over (changes l.initial.patch) (g.B.Blocks.blocks l.bitmap.blocks.now)) (over (changes l.patch) (g.B.Blocks.blocks l.bitmap.blocks.now)) l.bitmap.start l.first l.end l.i;
  within : AreWithin (changes l.initial.patch) (g.B.Blocks.total l.bitmap.blocks.now) → AreWithin (changes l.patch) (g.B.Blocks.total l.bitmap.blocks.now);
}
