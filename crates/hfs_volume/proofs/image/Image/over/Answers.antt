-- No block is changed, so the bytes are the base's.
use Rattle.std.proofs.Common.{ap}
use Rattle.hfs_blocks.specs.Layers.{changes}
use Rattle.hfs_volume.proofs.Laid.{laid_over-nothing}
use Rattle.hfs_volume.proofs.image.Image.over.Goals as goal

pub returns-clause-current : goal.returns-clause-current
returns-clause-current c = laid_over-nothing (changes c.new.result) c.args.base (λ n. ap (λ p. changes p n) c.new.ensures)
