-- The edit of the fork is that of the call.
use Rattle.std.proofs.Common.{sym, subst, Result}
use Rattle.hfs_call_patches.specs.declared.change.Change.{Change}
use Rattle.hfs_call_edits.specs.declared.editing.Refusal.{Refusal}
use Rattle.hfs_call_edits.specs.Edits.{HasForkRoom, HasForkWritten, IsEditOf}
use Rattle.hfs_model.specs.declared.call.Call.TheVariants as call
use Rattle.hfs_call_patches.specs.Calls.{IsSetEofEdit}
use Rattle.hfs_call_edits.proofs.ForkEdits.{set_eof_edit, set_eof_room, set_eof_written}
use Rattle.hfs_call_edits.proofs.editing.Editing.set_eof.Goals as goal

pub returns-clause-made : goal.returns-clause-made
returns-clause-made g c =
    let blocks = g.B.Blocks.blocks in
    let total = g.B.Blocks.total in
    let v = c.args.self.now in
    let edit = subst (λ b. IsSetEofEdit c.found_file-found.result c.args.fork c.args.length c.args.now (total b) (blocks b) c.in_ok-edit.edit) c.self.view_is c.in_ok-edit.ensures in
    subst (λ (r : Result Change Refusal). IsEditOf (call.SetEof c.args.dir c.args.name.now c.args.fork c.args.length c.args.now) (total v) (blocks v) r) (sym c.edit_of.ensures)
    (set_eof_edit c.args.dir c.args.name.now c.args.fork c.args.length c.args.now (total v) (blocks v) c.found_file-found.result c.found_file-found.ensures.found c.in_ok-edit.edit edit)

pub returns-clause-room : goal.returns-clause-room
returns-clause-room g c =
    let blocks = g.B.Blocks.blocks in
    let total = g.B.Blocks.total in
    let v = c.args.self.now in
    let edit = subst (λ b. IsSetEofEdit c.found_file-found.result c.args.fork c.args.length c.args.now (total b) (blocks b) c.in_ok-edit.edit) c.self.view_is c.in_ok-edit.ensures in
    subst (λ (r : Result Change Refusal). HasForkRoom (call.SetEof c.args.dir c.args.name.now c.args.fork c.args.length c.args.now) (total v) (blocks v) r) (sym c.edit_of.ensures)
    (set_eof_room c.args.dir c.args.name.now c.args.fork c.args.length c.args.now (total v) (blocks v) c.found_file-found.result c.found_file-found.ensures.found c.in_ok-edit.edit edit)

pub returns-clause-forks : goal.returns-clause-forks
returns-clause-forks g c =
    let blocks = g.B.Blocks.blocks in
    let total = g.B.Blocks.total in
    let v = c.args.self.now in
    let edit = subst (λ b. IsSetEofEdit c.found_file-found.result c.args.fork c.args.length c.args.now (total b) (blocks b) c.in_ok-edit.edit) c.self.view_is c.in_ok-edit.ensures in
    subst (λ (r : Result Change Refusal). HasForkWritten (call.SetEof c.args.dir c.args.name.now c.args.fork c.args.length c.args.now) (total v) (blocks v) r) (sym c.edit_of.ensures)
    (set_eof_written c.args.dir c.args.name.now c.args.fork c.args.length c.args.now (total v) (blocks v) c.found_file-found.result c.found_file-found.ensures.found c.in_ok-edit.edit edit)
