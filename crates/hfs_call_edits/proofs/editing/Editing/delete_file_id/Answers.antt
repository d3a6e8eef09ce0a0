-- The patch makes the call's step, and the call answers nothing.
use Rattle.std.proofs.Common.{rules, refl}
use Rattle.hfs_check.specs.VolumeOf.{volume_in}
use Rattle.hfs_model.specs.FileIds.{to_delete_file_id}
use Rattle.hfs_call_edits.proofs.Edited.{change_of, refusal_of, file_choice, editing_now}
use Rattle.hfs_call_edits.proofs.FileIdReplies.{delete_refused, delete_accepted}
use Rattle.hfs_record_edits.proofs.LawsProved.{catalog_edits_are_steps}
use Rattle.hfs_model.specs.declared.call.Call.TheVariants as call
use Rattle.hfs_call_edits.proofs.editing.Editing.delete_file_id.Goals as goal

pub patch_delete_file_id-requires-clause-chosen : goal.patch_delete_file_id-requires-clause-chosen
patch_delete_file_id-requires-clause-chosen g c = record {
  id = c.args.id;
  chosen = file_choice g.B.Blocks.blocks g.B.Blocks.total c.args.self.now c.self.inside.volume.blocks.now c.self.view_is (λ v. to_delete_file_id v c.args.id) c.in-Ok.chosen.0 c.in-Ok.chosen.1
      c.in-Ok.ensures.choice;
}

pub returns-in-Err : goal.returns-in-Err
returns-in-Err g c =
    let old = g.B.Blocks.blocks c.args.self.now in
    let refused = refusal_of (call.DeleteFileId c.args.id c.args.now) old (λ depth. refl) c.in-Err.code (delete_refused (volume_in old) c.args.now c.args.id c.in-Err.code c.in-Err.ensures) in
    search rules

pub returns : goal.returns
returns g c =
    let blocks = g.B.Blocks.blocks in
    let value = c.args.self.now in
    let own = c.self.inside.volume.blocks.now in
    let chosen = c.in-Ok.ensures.choice in
    change_of blocks g.B.Blocks.total value own c.self.view_is catalog_edits_are_steps (call.DeleteFileId c.args.id c.args.now) (λ depth. refl)
    c.in_ok-patch.patch c.args.now c.change.result c.change.ensures
    (editing_now blocks g.B.Blocks.total value own c.self.view_is _ _ _ c.self.invariant).sound c.in_ok-patch.ensures.within
    (c.in_ok-patch.ensures.makes c.args.id
    (file_choice blocks g.B.Blocks.total value own c.self.view_is (λ v. to_delete_file_id v c.args.id) c.in-Ok.chosen.0 c.in-Ok.chosen.1 chosen))
    (delete_accepted (volume_in (blocks value)) c.args.now c.args.id _ chosen.choice.is)
