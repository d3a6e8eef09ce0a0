-- The edit of the fork is that of the call.
use Rattle.std.proofs.Common.{sym, subst, Result}
use Rattle.hfs_call_patches.specs.declared.change.Change.{Change}
use Rattle.hfs_call_edits.specs.declared.editing.Refusal.{Refusal}
use Rattle.hfs_call_edits.specs.Edits.{HasForkRoom, HasForkWritten, IsEditOf}
use Rattle.hfs_model.specs.declared.call.Call.TheVariants as call
use Rattle.hfs_call_patches.specs.Calls.{IsWriteForkEdit}
use Rattle.hfs_call_edits.proofs.ForkEdits.{write_fork_edit, write_fork_room, write_fork_written}
use Rattle.hfs_call_edits.proofs.editing.Editing.write_fork.Goals as goal

pub returns-clause-made : goal.returns-clause-made
returns-clause-made g c =
    let blocks = g.B.Blocks.blocks in
    let total = g.B.Blocks.total in
    let v = c.args.self.now in
    let edit = subst (λ b. IsWriteForkEdit c.found_file-found.result c.args.write.now.fork c.args.write.now.offset c.args.write.now.bytes.now c.args.now (total b) (blocks b) c.in_ok-edit.edit) c.self.view_is c.in_ok-edit.ensures in
    subst (λ (r : Result Change Refusal). IsEditOf (call.WriteFork c.args.dir c.args.name.now c.args.write.now.fork c.args.write.now.offset c.args.write.now.bytes.now c.args.now) (total v) (blocks v) r) (sym c.edit_of.ensures)
    (write_fork_edit c.args.dir c.args.name.now c.args.write.now.fork c.args.write.now.offset c.args.write.now.bytes.now c.args.now (total v) (blocks v) c.found_file-found.result c.found_file-found.ensures.found c.in_ok-edit.edit edit)

pub returns-clause-room : goal.returns-clause-room
returns-clause-room g c =
    let blocks = g.B.Blocks.blocks in
    let total = g.B.Blocks.total in
    let v = c.args.self.now in
    let edit = subst (λ b. IsWriteForkEdit c.found_file-found.result c.args.write.now.fork c.args.write.now.offset c.args.write.now.bytes.now c.args.now (total b) (blocks b) c.in_ok-edit.edit) c.self.view_is c.in_ok-edit.ensures in
    subst (λ (r : Result Change Refusal). HasForkRoom (call.WriteFork c.args.dir c.args.name.now c.args.write.now.fork c.args.write.now.offset c.args.write.now.bytes.now c.args.now) (total v) (blocks v) r) (sym c.edit_of.ensures)
    (write_fork_room c.args.dir c.args.name.now c.args.write.now.fork c.args.write.now.offset c.args.write.now.bytes.now c.args.now (total v) (blocks v) c.found_file-found.result c.found_file-found.ensures.found c.in_ok-edit.edit edit)

pub returns-clause-forks : goal.returns-clause-forks
returns-clause-forks g c =
    let blocks = g.B.Blocks.blocks in
    let total = g.B.Blocks.total in
    let v = c.args.self.now in
    let edit = subst (λ b. IsWriteForkEdit c.found_file-found.result c.args.write.now.fork c.args.write.now.offset c.args.write.now.bytes.now c.args.now (total b) (blocks b) c.in_ok-edit.edit) c.self.view_is c.in_ok-edit.ensures in
    subst (λ (r : Result Change Refusal). HasForkWritten (call.WriteFork c.args.dir c.args.name.now c.args.write.now.fork c.args.write.now.offset c.args.write.now.bytes.now c.args.now) (total v) (blocks v) r) (sym c.edit_of.ensures)
    (write_fork_written c.args.dir c.args.name.now c.args.write.now.fork c.args.write.now.offset c.args.write.now.bytes.now c.args.now (total v) (blocks v) c.found_file-found.result c.found_file-found.ensures.found c.in_ok-edit.edit edit)
