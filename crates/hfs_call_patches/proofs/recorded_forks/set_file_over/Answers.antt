-- What lies beside the nodes is as it was.
use Rattle.hfs_blocks.specs.Layers.{changes}
use Rattle.hfs_call_patches.proofs.EditedNodes.{edited_within}
use Rattle.hfs_call_patches.proofs.recorded_forks.set_file_over.Goals as goal

pub returns-clause-inside : goal.returns-clause-inside
returns-clause-inside g c =
    edited_within g.B.Blocks.blocks g.B.Blocks.total c.args.nodes.below.now c.set_record_at.new.nodes.below.now c.args.nodes.runs.now c.set_record_at.new.nodes.runs.now
    (changes c.args.nodes.patch) (changes c.set_record_at.new.nodes.patch) c.in_ok-set_record_at.ensures.kept c.set_record_at.new.nodes.inside
