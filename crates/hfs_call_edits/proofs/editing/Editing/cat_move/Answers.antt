-- The patch makes the step of CatMove, or a code refuses it, or nodes are lacking.
use Rattle.std.proofs.Common.{rules, refl, sym, ◌∙◌, ap, subst, None}
use Rattle.hfs_model.specs.Need.{one_record}
use Rattle.hfs_check.specs.Parts.{mdb_in}
use Rattle.hfs_check.specs.VolumeOf.{volume_in}
use Rattle.hfs_call_patches.specs.Moving.{IsMoving, CanMove, FitsCounts, counts_moved}
use Rattle.hfs_call_edits.proofs.Edited.{editing_now}
use Rattle.hfs_call_edits.proofs.MayMove.{fits_counts, may_move, move_refused, move_accepted}
use Rattle.hfs_call_edits.proofs.StepMade.{step_made}
use Rattle.hfs_call_edits.proofs.Wanting.{in_file, enough_nodes, full_edit, refused_edit}
use Rattle.hfs_check.proofs.LawsProved.{catalog_is_sound, trees_are_sound}
use Rattle.hfs_record_edits.proofs.LawsProved.{move_fits, choice_stands, creation_is_free-folder, move_is_free, catalog_edits_are_steps}
use Rattle.hfs_model.specs.declared.call.Call.TheVariants as call
use Rattle.hfs_model.specs.declared.reply.Value.TheVariants as value
use Rattle.hfs_call_edits.proofs.editing.Editing.cat_move.Goals as goal

pub returns-in-Err : goal.returns-in-Err
returns-in-Err g c =
    let old = g.B.Blocks.blocks c.args.self.now in
    let refused = refused_edit (call.CatMove c.args.dir c.args.name.now c.args.new_dir c.args.now) old c.in-Err.code c.in-Err.ensures.other
    (move_refused (volume_in old) c.args.dir c.args.now c.args.new_dir c.args.name.now c.in-Err.code c.in-Err.ensures.refused) in
    search rules

pub returns-in-Some : goal.returns-in-Some
returns-in-Some g c =
    let old = g.B.Blocks.blocks c.args.self.now in
    full_edit (call.CatMove c.args.dir c.args.name.now c.args.new_dir c.args.now) old one_record (λ depth. refl)
    (g.B.Blocks.total c.args.self.now) c.in-Some.refusal value.Nothing c.in-Some.ensures.refusal
    (move_accepted old c.args.dir c.args.now c.args.new_dir c.args.name.now c.in-Ok.moving c.in-Ok.ensures)

pub patch_move-requires-clause-can : goal.patch_move-requires-clause-can
patch_move-requires-clause-can g c =
    let blocks = g.B.Blocks.blocks in
    let volume = c.args.self.now in
    let now = editing_now blocks g.B.Blocks.total volume c.self.inside.volume.blocks.now c.self.view_is _ _ _ c.self.invariant in
    subst (λ b. CanMove (blocks b) c.in-Ok.moving) (sym c.self.view_is)
    (may_move catalog_is_sound (g.B.Blocks.total volume) (blocks volume) now.sound c.args.dir c.args.name.now c.args.new_dir c.in-Ok.moving c.in-Ok.ensures move_fits
    trees_are_sound choice_stands creation_is_free-folder move_is_free (in_file (g.B.Blocks.total volume) (blocks volume) now.sound now.few) c.in_default.ensures.room)

pub counts_moved-counts-requires : goal.counts_moved-counts-requires
counts_moved-counts-requires g c =
    let blocks = g.B.Blocks.blocks in
    let volume = c.args.self.now in
    let now = editing_now blocks g.B.Blocks.total volume c.self.inside.volume.blocks.now c.self.view_is _ _ _ c.self.invariant in
    subst (λ mdb. FitsCounts mdb c.in-Ok.moving) (sym now.directory)
    (fits_counts catalog_is_sound (g.B.Blocks.total volume) (blocks volume) now.sound c.args.dir c.args.name.now c.args.new_dir c.in-Ok.moving c.in-Ok.ensures move_fits)

pub returns : goal.returns
returns g c =
    let blocks = g.B.Blocks.blocks in
    let volume = c.args.self.now in
    let own = c.self.inside.volume.blocks.now in
    let now = editing_now blocks g.B.Blocks.total volume own c.self.view_is _ _ _ c.self.invariant in
    let move = call.CatMove c.args.dir c.args.name.now c.args.new_dir c.args.now in
    let counts = c.counts_moved-counts.ensures ∙ ap (counts_moved c.in-Ok.moving c.args.now) now.directory in
    step_made blocks g.B.Blocks.total volume own c.self.view_is catalog_edits_are_steps move
    (enough_nodes move (blocks volume) one_record (λ depth. refl) c.in_default.ensures.refusal)
    c.in_ok-patch.patch (λ old. counts_moved c.in-Ok.moving c.args.now (mdb_in old)) c.change_of.result
    (c.change_of.ensures ∙ (λ i. record { patch = c.in_ok-patch.patch; counts = counts i; written = None; value = value.Nothing })) now.sound c.in_ok-patch.ensures.within
    (c.in_ok-patch.ensures.makes c.args.dir c.args.name.now c.args.new_dir
    (subst (λ b. IsMoving (blocks b) c.args.dir c.args.name.now c.args.new_dir c.in-Ok.moving) (sym c.self.view_is) c.in-Ok.ensures))
    (move_accepted (blocks volume) c.args.dir c.args.now c.args.new_dir c.args.name.now c.in-Ok.moving c.in-Ok.ensures)
