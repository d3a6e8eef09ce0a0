-- The runs are those of the catalog's file, and the volume is sound.
use Rattle.hfs_call_edits.proofs.Edited.{editing_now, nodes_now}
use Rattle.hfs_items.proofs.QueryLawsProved.{catalog_answers-sound, catalog_answers-entries}
use Rattle.hfs_call_edits.proofs.editing.Editing.nodes.Goals as goal

pub returns-clause-nodes : goal.returns-clause-nodes
returns-clause-nodes g c = nodes_now g.B.Blocks.blocks g.B.Blocks.total c.args.self.now c.self.inside.volume.blocks.now c.self.view_is _ _ _ c.self.invariant

pub returns-clause-catalog : goal.returns-clause-catalog
returns-clause-catalog g c =
    catalog_answers-sound (g.B.Blocks.total c.args.self.now) (g.B.Blocks.blocks c.args.self.now)
    (editing_now g.B.Blocks.blocks g.B.Blocks.total c.args.self.now c.self.inside.volume.blocks.now c.self.view_is _ _ _ c.self.invariant).sound

pub returns-clause-entries : goal.returns-clause-entries
returns-clause-entries g c =
    catalog_answers-entries (g.B.Blocks.total c.args.self.now) (g.B.Blocks.blocks c.args.self.now) (g.met.B.Blocks.whole c.args.self.now)
    (editing_now g.B.Blocks.blocks g.B.Blocks.total c.args.self.now c.self.inside.volume.blocks.now c.self.view_is _ _ _ c.self.invariant).sound
