-- The patch makes the call's step, and the call answers the file's ID.
use Rattle.std.proofs.Common.{rules, refl, sym, ap, ◌∙◌, ℕ}
use Rattle.hfs_check.specs.VolumeOf.{volume_in}
use Rattle.hfs_model.specs.FileIds.{to_create_file_id}
use Rattle.hfs_model.specs.Need.{one_record}
use Rattle.hfs_model.specs.Replies.{success}
use Rattle.hfs_call_edits.proofs.Edited.{file_choice, editing_now}
use Rattle.hfs_call_edits.proofs.FileIdReplies.{create_refused, create_accepted, change_to}
use Rattle.hfs_call_edits.proofs.FileIdsChosen.{create_code}
use Rattle.hfs_call_patches.proofs.ChosenFileLemmas.{file_id_is}
use Rattle.hfs_call_edits.proofs.Wanting.{in_file, enough_nodes, full_edit, refused_edit}
use Rattle.hfs_record_edits.proofs.LawsProved.{catalog_edits_are_steps}
use Rattle.hfs_model.specs.declared.call.Call.TheVariants as call
use Rattle.hfs_model.specs.declared.reply.Value.TheVariants as answer
use Rattle.hfs_call_edits.proofs.editing.Editing.create_file_id.Goals as goal

pub patch_create_file_id-requires-clause-chosen : goal.patch_create_file_id-requires-clause-chosen
patch_create_file_id-requires-clause-chosen g c = record {
  dir = c.args.dir;
  name = c.args.name.now;
  chosen = file_choice g.B.Blocks.blocks g.B.Blocks.total c.args.self.now c.self.inside.volume.blocks.now c.self.view_is (λ v. to_create_file_id v c.args.dir c.args.name.now) c.in-Ok.chosen.0 c.in-Ok.chosen.1
      c.in-Ok.ensures.choice.choice;
}

pub patch_create_file_id-requires-clause-inside : goal.patch_create_file_id-requires-clause-inside
patch_create_file_id-requires-clause-inside g c =
    let own = c.self.inside.volume.blocks.now in
    in_file (g.B.Blocks.total own) (g.B.Blocks.blocks own) c.self.invariant.sound c.self.invariant.few

pub returns-in-Err : goal.returns-in-Err
returns-in-Err g c =
    let old = g.B.Blocks.blocks c.args.self.now in
    let refused = refused_edit (call.CreateFileId c.args.dir c.args.name.now c.args.now) old c.in-Err.code
    (create_code (volume_in old) c.args.dir c.args.name.now c.in-Err.code c.in-Err.ensures.choice)
    (create_refused (volume_in old) c.args.now c.args.dir c.args.name.now c.in-Err.code c.in-Err.ensures.choice) in
    search rules

pub returns-in-Some : goal.returns-in-Some
returns-in-Some g c =
    let old = g.B.Blocks.blocks c.args.self.now in
    full_edit (call.CreateFileId c.args.dir c.args.name.now c.args.now) old one_record (λ depth. refl) (g.B.Blocks.total c.args.self.now) c.in-Some.refusal _ c.in-Some.ensures.refusal
    (create_accepted (volume_in old) c.args.now c.args.dir c.args.name.now _ c.in-Ok.ensures.choice.choice.choice.is)

pub returns : goal.returns
returns g c =
    let blocks = g.B.Blocks.blocks in
    let value = c.args.self.now in
    let own = c.self.inside.volume.blocks.now in
    let chosen = c.in-Ok.ensures.choice.choice in
    change_to blocks g.B.Blocks.total value own c.self.view_is catalog_edits_are_steps (call.CreateFileId c.args.dir c.args.name.now c.args.now)
    (enough_nodes (call.CreateFileId c.args.dir c.args.name.now c.args.now) (blocks value) one_record (λ depth. refl) c.in_default.ensures.refusal)
    c.in_ok-patch.patch c.args.now c.in-Ok.chosen.1.id c.change_to_id.result c.change_to_id.ensures
    (editing_now blocks g.B.Blocks.total value own c.self.view_is _ _ _ c.self.invariant).sound c.in_ok-patch.ensures.within
    (c.in_ok-patch.ensures.makes c.args.dir c.args.name.now
    (file_choice blocks g.B.Blocks.total value own c.self.view_is (λ v. to_create_file_id v c.args.dir c.args.name.now) c.in-Ok.chosen.0 c.in-Ok.chosen.1 chosen))
    (create_accepted (volume_in (blocks value)) c.args.now c.args.dir c.args.name.now _ chosen.choice.is
    ∙ ap (λ (n : ℕ). success (answer.Id n)) (sym (file_id_is (blocks value) _ c.in-Ok.chosen.0 c.in-Ok.chosen.1 chosen)))
