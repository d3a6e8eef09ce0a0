-- What lies beside the nodes is as it was.
use Rattle.hfs_blocks.specs.Layers.{changes}
use Rattle.hfs_call_patches.proofs.EditedNodes.{edited_within}
use Rattle.hfs_call_patches.proofs.overflow.shorten_over.Goals as goal

pub returns-clause-inside : goal.returns-clause-inside
returns-clause-inside g c =
    edited_within g.B.Blocks.blocks g.B.Blocks.total c.args.nodes.below.now c.shorten_fork.new.nodes.below.now c.args.nodes.runs.now c.shorten_fork.new.nodes.runs.now
    (changes c.args.nodes.patch) (changes c.shorten_fork.new.nodes.patch) c.in_ok-fork.ensures.kept c.shorten_fork.new.nodes.inside
