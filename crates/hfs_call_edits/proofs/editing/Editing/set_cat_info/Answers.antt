-- The patch of a folder or of a file makes the call's step, and the call answers nothing.
use Rattle.std.proofs.Common.{rules, refl, subst}
use Rattle.hfs_check.specs.VolumeOf.{volume_in}
use Rattle.hfs_model.specs.Choices.{to_set_cat_info}
use Rattle.hfs_call_patches.specs.Settings.{set_cat_info_call}
use Rattle.hfs_call_edits.specs.Edits.{IsChosenBody}
use Rattle.hfs_call_edits.proofs.Edited.{cat_info_refused, cat_info_accepted, change_of, refusal_of, file_choice, folder_choice, editing_now}
use Rattle.hfs_record_edits.proofs.LawsProved.{catalog_edits_are_steps}
use Rattle.hfs_call_edits.proofs.editing.Editing.set_cat_info.Goals as goal

pub patch_set_folder_info-requires-clause-chosen : goal.patch_set_folder_info-requires-clause-chosen
patch_set_folder_info-requires-clause-chosen g c = record {
  dir = c.args.dir;
  name = c.args.name.now;
  chosen = folder_choice g.B.Blocks.blocks g.B.Blocks.total c.args.self.now c.self.inside.volume.blocks.now c.self.view_is (λ v. to_set_cat_info v c.args.dir c.args.name.now) c.in-Ok.placed.item.key c.in-Folder.folder
      (subst (IsChosenBody (g.B.Blocks.blocks c.args.self.now) (to_set_cat_info (volume_in (g.B.Blocks.blocks c.args.self.now)) c.args.dir c.args.name.now) c.in-Ok.placed.item.key) c.in-Folder.is c.in-Ok.ensures.chosen).choice;
}

pub patch_set_file_info-requires-clause-chosen : goal.patch_set_file_info-requires-clause-chosen
patch_set_file_info-requires-clause-chosen g c = record {
  dir = c.args.dir;
  name = c.args.name.now;
  chosen = file_choice g.B.Blocks.blocks g.B.Blocks.total c.args.self.now c.self.inside.volume.blocks.now c.self.view_is (λ v. to_set_cat_info v c.args.dir c.args.name.now) c.in-Ok.placed.item.key c.in-File.file
      (subst (IsChosenBody (g.B.Blocks.blocks c.args.self.now) (to_set_cat_info (volume_in (g.B.Blocks.blocks c.args.self.now)) c.args.dir c.args.name.now) c.in-Ok.placed.item.key) c.in-File.is c.in-Ok.ensures.chosen).choice;
}

pub returns-in-Err : goal.returns-in-Err
returns-in-Err g c =
    let old = g.B.Blocks.blocks c.args.self.now in
    let refused = refusal_of (set_cat_info_call c.args.dir c.args.name.now c.args.settings.now c.args.now) old (λ depth. refl) c.in-Err.code
    (cat_info_refused (volume_in old) c.args.dir c.args.now c.args.name.now c.args.settings.now c.in-Err.code c.in-Err.ensures.chosen) in
    search rules

pub returns-in_ok-patch-in-Folder : goal.returns-in_ok-patch-in-Folder
returns-in_ok-patch-in-Folder g c =
    let blocks = g.B.Blocks.blocks in
    let value = c.args.self.now in
    let own = c.self.inside.volume.blocks.now in
    let chosen = (subst (IsChosenBody (blocks value) (to_set_cat_info (volume_in (blocks value)) c.args.dir c.args.name.now) c.in-Ok.placed.item.key) c.in-Folder.is c.in-Ok.ensures.chosen).choice in
    change_of blocks g.B.Blocks.total value own c.self.view_is catalog_edits_are_steps (set_cat_info_call c.args.dir c.args.name.now c.args.settings.now c.args.now) (λ depth. refl)
    c.in_ok-patch-in-Folder.patch c.args.now c.change.result c.change.ensures
    (editing_now blocks g.B.Blocks.total value own c.self.view_is _ _ _ c.self.invariant).sound c.in_ok-patch-in-Folder.ensures.within
    (c.in_ok-patch-in-Folder.ensures.makes c.args.dir c.args.name.now
    (folder_choice blocks g.B.Blocks.total value own c.self.view_is (λ v. to_set_cat_info v c.args.dir c.args.name.now) c.in-Ok.placed.item.key c.in-Folder.folder chosen))
    (cat_info_accepted (volume_in (blocks value)) c.args.dir c.args.now c.args.name.now c.args.settings.now _ chosen.choice.is)

pub returns-in_ok-patch-in-File : goal.returns-in_ok-patch-in-File
returns-in_ok-patch-in-File g c =
    let blocks = g.B.Blocks.blocks in
    let value = c.args.self.now in
    let own = c.self.inside.volume.blocks.now in
    let chosen = (subst (IsChosenBody (blocks value) (to_set_cat_info (volume_in (blocks value)) c.args.dir c.args.name.now) c.in-Ok.placed.item.key) c.in-File.is c.in-Ok.ensures.chosen).choice in
    change_of blocks g.B.Blocks.total value own c.self.view_is catalog_edits_are_steps (set_cat_info_call c.args.dir c.args.name.now c.args.settings.now c.args.now) (λ depth. refl)
    c.in_ok-patch-in-File.patch c.args.now c.change-in-File.result c.change-in-File.ensures
    (editing_now blocks g.B.Blocks.total value own c.self.view_is _ _ _ c.self.invariant).sound c.in_ok-patch-in-File.ensures.within
    (c.in_ok-patch-in-File.ensures.makes c.args.dir c.args.name.now
    (file_choice blocks g.B.Blocks.total value own c.self.view_is (λ v. to_set_cat_info v c.args.dir c.args.name.now) c.in-Ok.placed.item.key c.in-File.file chosen))
    (cat_info_accepted (volume_in (blocks value)) c.args.dir c.args.now c.args.name.now c.args.settings.now _ chosen.choice.is)
