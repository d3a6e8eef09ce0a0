-- The bits of the extents so far are clear, and everything else is as it was.
use Rattle.std.proofs.Common.{take}
use Rattle.hfs_blocks.specs.Layers.{changes, AreWithin}
use Rattle.hfs_record_edits.specs.Released.{HasReleasedOver}
use Rattle.hfs_record_edits.proofs.releasing.release_extents.Given as goal

abbrev pub invariant-loop-i : goal.invariant-loop-i
invariant-loop-i g l = record {
  released : HasReleasedOver (g.B.Blocks.blocks l.bitmap.blocks.now) l.bitmap.start l.bitmap.count (take l.i l.extents) l.initial.patch l.patch;
  within : AreWithin (changes l.initial.patch) (g.B.Blocks.total l.bitmap.blocks.now) → AreWithin (changes l.patch) (g.B.Blocks.total l.bitmap.blocks.now);
}
