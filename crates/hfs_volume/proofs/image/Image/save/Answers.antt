-- The base is that of the fields.
use Rattle.std.proofs.Common.{sym, ap, subst}
use Rattle.hfs_blocks.specs.Blocks.{block_count}
use Rattle.hfs_blocks.specs.Layers.{changes, AreWithin}
use Rattle.hfs_volume.specs.BaseBytes.{EndsInZeros}
use Rattle.hfs_volume.proofs.SavedPieces.{ends-laid}
use Rattle.hfs_volume.proofs.image.Image.save.Goals as goal

pub save_laid-requires-clause-within : goal.save_laid-requires-clause-within
save_laid-requires-clause-within g c = subst (λ b. AreWithin (changes c.self.inside.changed) (block_count b)) (sym c.in-Some.ensures.bytes) c.self.invariant.within

pub save_blocks-requires : goal.save_blocks-requires
save_blocks-requires g c =
    subst EndsInZeros (ap (λ v. v.current) c.self.view_is)
    (ends-laid (changes c.self.inside.changed) c.self.inside.base c.self.invariant.within c.in-None.ensures.zeros)
