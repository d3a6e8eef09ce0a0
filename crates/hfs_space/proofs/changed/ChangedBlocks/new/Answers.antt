-- Nothing is kept, and no flag is set.
use Rattle.std.proofs.Common.{◌∙◌}
use Rattle.hfs_space.specs.Changed.{all_blocks}
use Rattle.hfs_space.proofs.AllBlocks.{all-none}
use Rattle.hfs_space.proofs.changed.ChangedBlocks.new.Goals as goal

pub returns : goal.returns
returns c = (λ i. all_blocks (c.new.ensures i) (c.new-2.ensures.items i)) ∙ all-none
