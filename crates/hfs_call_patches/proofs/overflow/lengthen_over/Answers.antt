-- What lies beside the nodes is as it was.
use Rattle.hfs_blocks.specs.Layers.{changes}
use Rattle.hfs_call_patches.proofs.EditedNodes.{edited_within}
use Rattle.hfs_call_patches.proofs.overflow.lengthen_over.Goals as goal

pub returns-in-Ok-clause-inside : goal.returns-in-Ok-clause-inside
returns-in-Ok-clause-inside g c =
    edited_within g.B.Blocks.blocks g.B.Blocks.total c.args.nodes.below.now c.lengthen_fork.new.nodes.below.now c.args.nodes.runs.now c.lengthen_fork.new.nodes.runs.now
    (changes c.args.nodes.patch) (changes c.lengthen_fork.new.nodes.patch) c.in_ok-first.ensures.kept c.lengthen_fork.new.nodes.inside
