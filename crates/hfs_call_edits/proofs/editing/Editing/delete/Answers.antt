-- What is deleted is a folder or a file, and the change is the call's.
use Rattle.std.proofs.Common.{rules, refl, subst}
use Rattle.hfs_check.specs.VolumeOf.{volume_in}
use Rattle.hfs_model.specs.declared.call.Call.TheVariants as call
use Rattle.hfs_model.specs.Choices.{to_delete}
use Rattle.hfs_call_edits.specs.Edits.{IsChosenBody}
use Rattle.hfs_call_edits.proofs.DeletedChange.{delete_refused, deletion_edit}
use Rattle.hfs_call_edits.proofs.Edited.{refusal_of}
use Rattle.hfs_call_edits.proofs.editing.Editing.delete.Goals as goal

pub returns-in-Err : goal.returns-in-Err
returns-in-Err g c =
    let old = g.B.Blocks.blocks c.args.self.now in
    let refused = refusal_of (call.Delete c.args.dir c.args.name.now c.args.now) old (λ depth. refl) c.in-Err.code
    (delete_refused (volume_in old) c.args.dir c.args.now c.args.name.now c.in-Err.code c.in-Err.ensures.choice) in
    search rules

pub delete_folder-requires-clause-chosen : goal.delete_folder-requires-clause-chosen
delete_folder-requires-clause-chosen g c =
    let old = g.B.Blocks.blocks c.args.self.now in
    record {
      name = c.args.name.now;
      chosen = (subst (IsChosenBody old (to_delete (volume_in old) c.args.dir c.args.name.now) c.in-Ok.item.key) c.in-Folder.is c.in-Ok.ensures.choice).choice;
    }

pub returns-in_ok-change-in-Folder : goal.returns-in_ok-change-in-Folder
returns-in_ok-change-in-Folder g c =
    let old = g.B.Blocks.blocks c.args.self.now in
    deletion_edit c.args.dir c.args.now (g.B.Blocks.total c.args.self.now) c.args.name.now old c.in_ok-change-in-Folder.change
    (c.in_ok-change-in-Folder.ensures c.args.name.now
    (subst (IsChosenBody old (to_delete (volume_in old) c.args.dir c.args.name.now) c.in-Ok.item.key) c.in-Folder.is c.in-Ok.ensures.choice).choice)

pub delete_file-requires-clause-chosen : goal.delete_file-requires-clause-chosen
delete_file-requires-clause-chosen g c =
    let old = g.B.Blocks.blocks c.args.self.now in
    record {
      name = c.args.name.now;
      chosen = (subst (IsChosenBody old (to_delete (volume_in old) c.args.dir c.args.name.now) c.in-Ok.item.key) c.in-File.is c.in-Ok.ensures.choice).choice;
    }

pub returns-in_ok-change-in-File : goal.returns-in_ok-change-in-File
returns-in_ok-change-in-File g c =
    let old = g.B.Blocks.blocks c.args.self.now in
    deletion_edit c.args.dir c.args.now (g.B.Blocks.total c.args.self.now) c.args.name.now old c.in_ok-change-in-File.change
    (c.in_ok-change-in-File.ensures c.args.name.now
    (subst (IsChosenBody old (to_delete (volume_in old) c.args.dir c.args.name.now) c.in-Ok.item.key) c.in-File.is c.in-Ok.ensures.choice).choice)
