-- The patch makes the call's step, and the call answers nothing.
use Rattle.hfs_call_edits.proofs.DeletedChange.{folder_change}
use Rattle.hfs_call_edits.proofs.Edited.{editing_now}
use Rattle.hfs_record_edits.proofs.LawsProved.{catalog_edits_are_steps}
use Rattle.hfs_call_edits.proofs.editing.Editing.delete_folder.Goals as goal

pub returns : goal.returns
returns g c =
    let blocks = g.B.Blocks.blocks in
    let value = c.args.self.now in
    let own = c.self.inside.volume.blocks.now in
    let now = editing_now blocks g.B.Blocks.total value own c.self.view_is _ _ _ c.self.invariant in
    folder_change blocks g.B.Blocks.total value own c.self.view_is catalog_edits_are_steps c.args.parent.now.id c.args.now c.args.key.now c.args.folder.now c.self.inside.volume.mdb.now
    c.without_folder.result c.in_ok-patch.patch now.directory c.without_folder.ensures now.sound c.in_ok-patch.ensures.within c.in_ok-patch.ensures.makes
