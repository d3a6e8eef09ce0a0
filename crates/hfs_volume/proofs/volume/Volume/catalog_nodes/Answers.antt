use Rattle.std.proofs.Common.{◌∙◌}
use Rattle.hfs_blocks.specs.Blocks.{block_at, nodes_in}
use Rattle.hfs_volume.proofs.Seen.{sound, is_catalog, same_content, are_entries}
use Rattle.hfs_items.proofs.QueryLawsProved.{catalog_answers-sound, catalog_answers-entries}
use Rattle.hfs_volume.proofs.volume.Volume.catalog_nodes.Goals as goal

pub returns-clause-sound : goal.returns-clause-sound
returns-clause-sound c =
    sound _ _ _ _ _ c.self.view_is c.self.invariant c.new.result (c.new.ensures ∙ (λ i. nodes_in (block_at (c.blocks-2.ensures i).current) (c.deref.ensures.value i)))

pub returns-clause-catalog : goal.returns-clause-catalog
returns-clause-catalog c =
    is_catalog _ _ _ _ _ c.self.view_is c.self.invariant c.new.result (c.new.ensures ∙ (λ i. nodes_in (block_at (c.blocks-2.ensures i).current) (c.deref.ensures.value i))) catalog_answers-sound

pub returns-clause-content : goal.returns-clause-content
returns-clause-content c =
    same_content _ _ _ _ _ c.self.view_is c.self.invariant c.new.result (c.new.ensures ∙ (λ i. nodes_in (block_at (c.blocks-2.ensures i).current) (c.deref.ensures.value i)))

pub returns-clause-entries : goal.returns-clause-entries
returns-clause-entries c =
    are_entries _ _ _ _ _ c.self.view_is c.self.invariant c.new.result (c.new.ensures ∙ (λ i. nodes_in (block_at (c.blocks-2.ensures i).current) (c.deref.ensures.value i))) catalog_answers-entries
