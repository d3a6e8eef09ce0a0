use Rattle.std.proofs.Common.{◌∙◌, ap}
use Rattle.hfs_blocks.specs.Blocks.{block_at, nodes_in}
use Rattle.hfs_check.specs.Parts.{extents_nodes}
use Rattle.hfs_volume.specs.Image.{ImageValue}
use Rattle.hfs_volume.proofs.volume.Volume.extents_nodes.Goals as goal

pub returns : goal.returns
returns c =
    c.new.ensures ∙ (λ i. nodes_in (block_at (c.blocks-2.ensures i).current) (c.deref.ensures.value i)) ∙ c.self.invariant.extents_nodes
    ∙ ap (λ (v : ImageValue). extents_nodes (block_at v.current)) c.self.view_is
