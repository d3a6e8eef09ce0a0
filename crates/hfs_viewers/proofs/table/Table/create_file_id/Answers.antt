use Rattle.std.proofs.Common.{true, refl, subst}
use Rattle.hfs_model.specs.declared.item.Item.{Item}
use Rattle.hfs_model.specs.Volume.{Volume}
use Rattle.hfs_model.specs.FileIds as model
use Rattle.hfs_model.specs.FileIds.{create_file_id, set_thread}
use Rattle.hfs_viewers.specs.RowEdits.{Leaves, with_thread}
use Rattle.hfs_viewers.specs.Tables.{volume_of}
use Rattle.hfs_model.proofs.KeepsFileIds.{same_change as change_to_id_is}
use Rattle.hfs_viewers.proofs.Left.{refused, written, thread_shown, thread_shape}
use Rattle.hfs_viewers.proofs.table.Table.create_file_id.Goals as goal

pub returns-in-Err : goal.returns-in-Err
unfolding create_file_id
returns-in-Err c = subst (λ (w : Volume). Leaves c.args.self.now w) (change_to_id_is (volume_of c.args.self.now) _ (set_thread true) c.args.now)
    (refused c.args.self.now _ c.to_create_file_id.result c.in-Err.field-0 _ c.args.now c.requires c.to_create_file_id.ensures.choice c.in-Err.is)

pub returns : goal.returns
unfolding create_file_id
returns c =
    let t = c.args.self.now in
    subst (λ (w : Volume). Leaves (record t { by_id = c.set_thread.new.rows; changed = c.args.now }) w) (change_to_id_is (volume_of t) _ (set_thread true) c.args.now)
    (written t c.requires c.set_thread.new.rows (with_thread true) (λ (i : Item). record i { kind = model.with_thread true i.kind }) _ c.to_create_file_id.result c.in-Ok.found c.args.now
    c.to_create_file_id.ensures.choice c.in-Ok.is c.in-Ok.ensures.found c.set_thread.ensures (thread_shown t.base t.mdb true) (λ i. refl) (λ i. refl) (thread_shape t.mdb true))
