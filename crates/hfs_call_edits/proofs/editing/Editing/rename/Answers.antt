-- The patch makes the step of Rename, or a code refuses it, or nodes are lacking.
use Rattle.std.proofs.Common.{rules, refl, sym, subst}
use Rattle.hfs_check.specs.Parts.{mdb_in, catalog_nodes}
use Rattle.hfs_check.specs.VolumeOf.{volume_in}
use Rattle.hfs_record_edits.specs.OnBlocks.{at_time}
use Rattle.hfs_call_patches.specs.Rekeyings.{CanRekey}
use Rattle.hfs_call_patches.specs.Renaming.{IsRenameChoice}
use Rattle.hfs_call_edits.specs.ChoosingRenaming.{nodes_for_name}
use Rattle.hfs_call_edits.proofs.Edited.{editing_now}
use Rattle.hfs_call_edits.proofs.MayRename.{can_rename, rename_refused, rename_accepted}
use Rattle.hfs_call_edits.proofs.StepMade.{step_made}
use Rattle.hfs_call_edits.proofs.Wanting.{in_file, enough_nodes, full_edit, refused_edit}
use Rattle.hfs_check.proofs.LawsProved.{trees_are_sound, catalog_is_sound}
use Rattle.hfs_record_edits.proofs.LawsProved.{choice_stands, rename_is_free, catalog_edits_are_steps}
use Rattle.hfs_model.specs.declared.call.Call.TheVariants as call
use Rattle.hfs_model.specs.declared.reply.Value.TheVariants as value
use Rattle.hfs_call_edits.proofs.editing.Editing.rename.Goals as goal

pub patch_rename-requires-clause-chosen : goal.patch_rename-requires-clause-chosen
patch_rename-requires-clause-chosen g c = record {
  dir = c.args.dir;
  name = c.args.name.now;
  new_name = c.args.new_name.now;
  chosen = subst (λ b. IsRenameChoice (g.B.Blocks.blocks b) c.args.dir c.args.name.now c.args.new_name.now c.in-Ok.item) (sym c.self.view_is) c.in-Ok.ensures.choice;
}

pub returns-in-Err : goal.returns-in-Err
returns-in-Err g c =
    let old = g.B.Blocks.blocks c.args.self.now in
    let refused = refused_edit (call.Rename c.args.dir c.args.name.now c.args.new_name.now c.args.now) old c.in-Err.code c.in-Err.ensures.other
    (rename_refused (volume_in old) c.args.dir c.args.now c.args.name.now c.args.new_name.now c.in-Err.code c.in-Err.ensures.refused) in
    search rules

pub returns-in-Some : goal.returns-in-Some
returns-in-Some g c =
    let old = g.B.Blocks.blocks c.args.self.now in
    full_edit (call.Rename c.args.dir c.args.name.now c.args.new_name.now c.args.now) old (nodes_for_name c.args.name.now c.args.new_name.now) (λ depth. refl)
    (g.B.Blocks.total c.args.self.now) c.in-Some.refusal value.Nothing c.in-Some.ensures.refusal
    (rename_accepted old c.args.dir c.args.now c.args.name.now c.args.new_name.now c.in-Ok.item c.in-Ok.ensures)

pub patch_rename-requires-clause-can : goal.patch_rename-requires-clause-can
patch_rename-requires-clause-can g c =
    let blocks = g.B.Blocks.blocks in
    let volume = c.args.self.now in
    let now = editing_now blocks g.B.Blocks.total volume c.self.inside.volume.blocks.now c.self.view_is _ _ _ c.self.invariant in
    subst (λ b. CanRekey c.in-Ok.item (catalog_nodes (blocks b))) (sym c.self.view_is)
    (can_rename trees_are_sound catalog_is_sound choice_stands rename_is_free (g.B.Blocks.total volume) (blocks volume) now.sound
    c.args.dir c.args.name.now c.args.new_name.now c.in-Ok.item c.in-Ok.ensures (in_file (g.B.Blocks.total volume) (blocks volume) now.sound now.few) c.in_default.ensures.room)

pub returns : goal.returns
returns g c =
    let blocks = g.B.Blocks.blocks in
    let volume = c.args.self.now in
    let own = c.self.inside.volume.blocks.now in
    let now = editing_now blocks g.B.Blocks.total volume own c.self.view_is _ _ _ c.self.invariant in
    let rename = call.Rename c.args.dir c.args.name.now c.args.new_name.now c.args.now in
    step_made blocks g.B.Blocks.total volume own c.self.view_is catalog_edits_are_steps rename
    (enough_nodes rename (blocks volume) (nodes_for_name c.args.name.now c.args.new_name.now) (λ depth. refl) c.in_default.ensures.refusal)
    c.in_ok-patch.patch (λ old. at_time c.args.now (mdb_in old)) c.change.result c.change.ensures now.sound c.in_ok-patch.ensures.within
    (c.in_ok-patch.ensures.makes c.args.dir c.args.name.now c.args.new_name.now
    (subst (λ b. IsRenameChoice (blocks b) c.args.dir c.args.name.now c.args.new_name.now c.in-Ok.item) (sym c.self.view_is) c.in-Ok.ensures.choice))
    (rename_accepted (blocks volume) c.args.dir c.args.now c.args.name.now c.args.new_name.now c.in-Ok.item c.in-Ok.ensures)
