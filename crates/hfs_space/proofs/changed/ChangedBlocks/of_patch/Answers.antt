-- The patch is kept, and no flag is set.
use Rattle.std.proofs.Common.{◌∙◌, []}
use Rattle.hfs_space.specs.Changed.{all_blocks}
use Rattle.hfs_space.proofs.AllBlocks.{below-zero}
use Rattle.hfs_space.proofs.changed.ChangedBlocks.of_patch.Goals as goal

pub returns : goal.returns
returns c = (λ i. all_blocks c.args.patch (c.new.ensures.items i)) ∙ below-zero c.args.patch []
