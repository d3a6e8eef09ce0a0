-- The records choose what the volume's entries do.
use Rattle.hfs_call_edits.proofs.FileIdsChosen.{deletes_id}
use Rattle.hfs_call_edits.proofs.Edited.{editing_now}
use Rattle.hfs_items.proofs.ReplyLemmas.{by_nodes}
use Rattle.hfs_record_edits.proofs.LawsProved.{choice_stands}
use Rattle.hfs_call_edits.proofs.editing.Editing.file_with_id.Goals as goal

pub returns : goal.returns
returns g c =
    let volume = c.args.self.now in
    let now = editing_now g.B.Blocks.blocks g.B.Blocks.total volume c.self.inside.volume.blocks.now c.self.view_is _ _ _ c.self.invariant in
    deletes_id choice_stands (g.B.Blocks.total volume) (g.B.Blocks.blocks volume) now.sound c.self.inside.volume.mdb.now now.directory
    _ (by_nodes (λ cat. cat) (g.B.Blocks.blocks volume) _ c.nodes.ensures.nodes) c.nodes.ensures.entries c.args.id c.file_with_id.result c.file_with_id.ensures
