use Rattle.std.proofs.Common.{false, refl}
use Rattle.hfs_model.specs.declared.item.Item.{Item}
use Rattle.hfs_model.specs.FileIds as model
use Rattle.hfs_model.specs.FileIds.{delete_file_id, set_thread}
use Rattle.hfs_viewers.specs.RowEdits.{with_thread}
use Rattle.hfs_viewers.proofs.Left.{refused, written, thread_shown, thread_shape}
use Rattle.hfs_viewers.proofs.table.Table.delete_file_id.Goals as goal

pub returns-in-Err : goal.returns-in-Err
unfolding delete_file_id
returns-in-Err c = refused c.args.self.now _ c.to_delete_file_id.result c.in-Err.field-0 _ c.args.now c.requires c.to_delete_file_id.ensures.choice c.in-Err.is

pub returns : goal.returns
unfolding delete_file_id
returns c =
    let t = c.args.self.now in
    written t c.requires c.set_thread.new.rows (with_thread false) (λ (i : Item). record i { kind = model.with_thread false i.kind }) _ c.to_delete_file_id.result c.in-Ok.found c.args.now
    c.to_delete_file_id.ensures.choice c.in-Ok.is c.in-Ok.ensures.found c.set_thread.ensures (thread_shown t.base t.mdb false) (λ i. refl) (λ i. refl) (thread_shape t.mdb false)
