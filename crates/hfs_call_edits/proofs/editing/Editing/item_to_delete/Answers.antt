-- The records choose what the volume's entries do.
use Rattle.hfs_call_edits.proofs.ToDelete.{deletes_item, deletes_in_folder}
use Rattle.hfs_call_edits.proofs.Edited.{editing_now}
use Rattle.hfs_items.proofs.ReplyLemmas.{by_nodes}
use Rattle.hfs_record_edits.proofs.LawsProved.{choice_stands}
use Rattle.hfs_call_edits.proofs.editing.Editing.item_to_delete.Goals as goal

pub returns-clause-choice : goal.returns-clause-choice
returns-clause-choice g c =
    let volume = c.args.self.now in
    let now = editing_now g.B.Blocks.blocks g.B.Blocks.total volume c.self.inside.volume.blocks.now c.self.view_is _ _ _ c.self.invariant in
    deletes_item choice_stands (g.B.Blocks.total volume) (g.B.Blocks.blocks volume) now.sound c.self.inside.volume.mdb.now now.directory
    _ (by_nodes (λ cat. cat) (g.B.Blocks.blocks volume) _ c.nodes.ensures.nodes) c.nodes.ensures.entries c.args.dir c.args.name.now c.item_to_delete.result c.item_to_delete.ensures

pub returns-clause-folder : goal.returns-clause-folder
returns-clause-folder g c =
    let volume = c.args.self.now in
    let now = editing_now g.B.Blocks.blocks g.B.Blocks.total volume c.self.inside.volume.blocks.now c.self.view_is _ _ _ c.self.invariant in
    deletes_in_folder choice_stands (g.B.Blocks.total volume) (g.B.Blocks.blocks volume) now.sound c.self.inside.volume.mdb.now now.directory
    _ (by_nodes (λ cat. cat) (g.B.Blocks.blocks volume) _ c.nodes.ensures.nodes) c.nodes.ensures.entries c.args.dir c.args.name.now c.item_to_delete.result c.item_to_delete.ensures
