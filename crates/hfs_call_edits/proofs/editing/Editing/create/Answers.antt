-- A code, want of nodes, or the change.
use Rattle.std.proofs.Common.{rules, refl}
use Rattle.hfs_model.specs.declared.call.Call.TheVariants as call
use Rattle.hfs_model.specs.declared.reply.Value.TheVariants as answer
use Rattle.hfs_model.specs.Need.{one_record}
use Rattle.hfs_check.specs.Parts.{mdb_in}
use Rattle.hfs_check.specs.VolumeOf.{volume_in}
use Rattle.hfs_call_edits.proofs.ChosenPlaces.{creation_code}
use Rattle.hfs_call_patches.proofs.CreationAnswerLemmas.{file_refused, file_answered}
use Rattle.hfs_call_edits.proofs.NewItemEdits.{ready_for, change_seen}
use Rattle.hfs_call_edits.proofs.Wanting.{enough_nodes, full_edit, refused_edit}
use Rattle.hfs_call_edits.proofs.editing.Editing.create.Goals as goal

pub returns-in-Err : goal.returns-in-Err
returns-in-Err g c =
    let v = volume_in (g.B.Blocks.blocks c.args.self.now) in
    let refused = refused_edit (call.Create c.args.dir c.args.name.now c.args.now) (g.B.Blocks.blocks c.args.self.now) c.in-Err.code
    (creation_code v c.args.dir c.args.name.now c.in-Err.code c.in-Err.ensures.chosen) (file_refused v c.args.dir c.args.now c.args.name.now c.in-Err.code c.in-Err.ensures.chosen) in
    search rules

pub returns-in-Some : goal.returns-in-Some
returns-in-Some g c =
    let old = g.B.Blocks.blocks c.args.self.now in
    full_edit (call.Create c.args.dir c.args.name.now c.args.now) old one_record (λ depth. refl) (g.B.Blocks.total c.args.self.now) c.in-Some.refusal (answer.Id (mdb_in old).next_id)
    c.in-Some.ensures.refusal (file_answered (volume_in old) c.args.dir c.args.now c.args.name.now _ c.in-Ok.ensures.chosen.is)

pub add_new_file-requires-clause-ready : goal.add_new_file-requires-clause-ready
add_new_file-requires-clause-ready g c =
    ready_for g.B.Blocks.blocks g.B.Blocks.total c.args.self.now c.self.inside.volume.blocks.now c.self.view_is c.self.inside.volume.mdb.now c.self.inside.volume.extents.now c.self.inside.volume.catalog.now
    c.args.dir c.args.name.now c.in-Ok.found.place c.self.invariant c.in-Ok.ensures.chosen c.in_default.ensures.records

pub returns : goal.returns
returns g c =
    let old = g.B.Blocks.blocks c.args.self.now in
    change_seen g.B.Blocks.blocks g.B.Blocks.total c.args.self.now c.self.inside.volume.blocks.now c.self.view_is (λ name. call.Create c.args.dir name c.args.now) c.in-Ok.found.place.name c.args.name.now c.in_ok-change.change
    c.in-Ok.ensures.chosen.own_name c.in_ok-change.ensures
    (enough_nodes (call.Create c.args.dir c.args.name.now c.args.now) old one_record (λ depth. refl) c.in_default.ensures.refusal)
